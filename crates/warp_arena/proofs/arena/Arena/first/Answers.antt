use Rattle.std.proofs.Common.{[], ◌∙◌, length, refl, subst}
use Rattle.warp_arena.specs.Places.{Reaches}
use Rattle.warp_arena.proofs.Walks.{threads, used, Listed-tags, Listed-first}
use Rattle.warp_arena.proofs.Reading.{handle_first, Reaches-back}
use Rattle.warp_arena.proofs.arena.Arena.first.Goals as goal

pub returns : goal.returns
returns c =
    let a = c.self.inside in
    let l = Listed-tags a c.self.invariant.whole in
    subst (λ v. Reaches v.places v.places c.handle.result) c.self.view_is
    (Reaches-back (threads a).entry (used a) [] (used a) refl l.apart c.handle.result
    (c.handle.ensures ∙ handle_first (threads a).entry (used a) a.ends.next (Listed-first (length a.nodes.items) a.ends (threads a).links (used a) l) l.none))
