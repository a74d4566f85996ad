-- proofs/order/marked_ports/Invariants.antt
-- the ports so far are marked
use Rattle.std.proofs.Common.{take}
use Rattle.warp_prog.specs.inner.Placing.{AreMarks}
use Rattle.warp_prog.proofs.order.marked_ports.Given as goal

abbrev pub invariant-loop-port : goal.invariant-loop-port
invariant-loop-port l = AreMarks l.marks.items (take l.port-index l.ports)
