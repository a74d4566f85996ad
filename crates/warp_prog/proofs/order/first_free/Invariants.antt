-- the first that is free among those that are left is that of all
use Rattle.std.proofs.Common.{◌≡◌, drop, map}
use Rattle.warp_prog.specs.inner.Placing.{numbers_of, first_free}
use Rattle.warp_prog.proofs.order.first_free.Given as goal

abbrev pub invariant-loop-n : goal.invariant-loop-n
invariant-loop-n l = first_free l.placed l.n (map numbers_of (drop l.n l.before)) ≡ first_free l.placed 0 (map numbers_of l.before)
