-- proofs/order/has_number/Invariants.antt
-- the number is among those that are left exactly if it is among all
use Rattle.std.proofs.Common.{◌≡◌, drop}
use Rattle.warp_prog.specs.Order.{stands_in}
use Rattle.warp_prog.proofs.order.has_number.Given as goal

abbrev pub invariant-loop-one : goal.invariant-loop-one
invariant-loop-one l = stands_in (drop l.one-index l.numbers) l.number ≡ stands_in l.numbers l.number
