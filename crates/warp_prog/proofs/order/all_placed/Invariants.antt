-- those that are left all have flags exactly if all have
use Rattle.std.proofs.Common.{◌≡◌, drop}
use Rattle.std.specs.List.{list_all}
use Rattle.warp_prog.specs.inner.Placing.{has_flag}
use Rattle.warp_prog.proofs.order.all_placed.Given as goal

abbrev pub invariant-loop-n : goal.invariant-loop-n
invariant-loop-n l = list_all (has_flag l.placed) (drop l.n-index l.reactions) ≡ list_all (has_flag l.placed) l.reactions
