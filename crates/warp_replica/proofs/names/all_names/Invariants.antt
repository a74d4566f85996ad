-- The names before this number are gathered.
use Rattle.warp_replica.proofs.RebuiltNames.{AreFirst}
use Rattle.warp_replica.proofs.names.all_names.Given as goal

abbrev pub invariant-loop-number : goal.invariant-loop-number
invariant-loop-number l = AreFirst l.table l.number l.names.items
