use Rattle.std.proofs.Common.{arith, sym, ap, ◌∙◌}
use Rattle.warp_arena.specs.Places.{node_of}
use Rattle.warp_arena.proofs.Finding.{none_declared}
use Rattle.warp_arena.proofs.arena.Arena.find.Goals as goal

pub returns-then-origin-len-clause-handle : goal.returns-then-origin-len-clause-handle
returns-then-origin-len-clause-handle c =
    sym (ap (λ v. node_of c.args.origin c.args.tag v.places) (sym c.self.view_is)
    ∙ none_declared c.self.inside c.self.invariant.whole c.args.origin c.args.tag (omega (arith, c.self.inside.by_origin.ok.0)))
