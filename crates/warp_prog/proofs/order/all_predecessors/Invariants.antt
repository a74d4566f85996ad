-- what precedes each reaction so far
use Rattle.std.proofs.Common.{◌≡◌, map}
use Rattle.std.specs.List.{range_with_len}
use Rattle.warp_step.specs.View.{program_of}
use Rattle.warp_prog.specs.Order.{predecessors}
use Rattle.warp_prog.specs.inner.Placing.{numbers_of}
use Rattle.warp_prog.proofs.order.all_predecessors.Given as goal

abbrev pub invariant-loop-n : goal.invariant-loop-n
invariant-loop-n l = map numbers_of l.all.items ≡ map (predecessors (program_of l.parts)) (range_with_len 0 l.n)
