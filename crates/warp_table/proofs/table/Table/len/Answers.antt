use Rattle.std.proofs.Common.{subst}
use Rattle.warp_table.specs.inner.Others.{places}
use Rattle.warp_table.specs.Log.{EachOnce}
use Rattle.warp_table.proofs.Places.{each_once}
use Rattle.warp_table.proofs.table.Table.len.Goals as goal

pub returns-clause-once : goal.returns-clause-once
returns-clause-once c = subst EachOnce c.self.view_is (each_once c.self.inside.records.items c.self.inside.names (places c.self.inside.others) c.self.invariant.1.places)
