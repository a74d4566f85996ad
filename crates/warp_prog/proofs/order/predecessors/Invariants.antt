-- those of the reactions so far that precede this one
use Rattle.std.proofs.Common.{◌≡◌, filter}
use Rattle.std.specs.List.{range_with_len}
use Rattle.warp_step.specs.View.{program_of}
use Rattle.warp_step.specs.Order.{precedes}
use Rattle.warp_prog.proofs.order.predecessors.Given as goal

abbrev pub invariant-loop-m : goal.invariant-loop-m
invariant-loop-m l = l.before.items ≡ filter (λ k. precedes (program_of l.parts) k l.n) (range_with_len 0 l.m)
