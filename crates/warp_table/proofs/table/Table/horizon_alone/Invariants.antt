-- the least tag that one of the origins so far reaches
use Rattle.warp_table.specs.Records.{set_of}
use Rattle.warp_table.proofs.LeastReach.{IsLeastReach}
use Rattle.warp_table.proofs.table.Table.horizon_alone.Given as goal

abbrev pub invariant-loop-origin : goal.invariant-loop-origin
invariant-loop-origin l = IsLeastReach (set_of l.self) l.origin l.end
