use Rattle.std.proofs.Common.{length}
use Rattle.warp_arena.proofs.arena.Arena.forget_hints_through.Goals as goal

pub invariant_of-self : goal.invariant_of-self
invariant_of-self c =
    let a = c.self.inside in
    record {
      whole = c.self.invariant.whole;
      used = c.self.invariant.used;
      hinted = c.keep_later.ensures.below (length a.nodes.items) c.self.invariant.hinted;
      own_hinted = c.keep_later-then-freed-gt0.ensures.below (length a.nodes.items) c.self.invariant.own_hinted;
    }
