-- Nothing that is looked for was passed over so far.
use Rattle.rtrb.specs.Ring.{received}
use Rattle.warp_disk.proofs.HandingLemmas.{Passed}
use Rattle.warp_disk.proofs.handing.next_since.Given as goal

abbrev pub invariant-loop : goal.invariant-loop
invariant-loop l = Passed l.beginning (received l.initial.handed) (received l.handed)
