use Rattle.warp_table.proofs.ListedNames.{names_differ, names_each}
use Rattle.warp_table.proofs.law.names_once.Goals as goal

pub returns-clause-once : goal.returns-clause-once
returns-clause-once c = names_differ

pub returns-clause-each : goal.returns-clause-each
returns-clause-each c = names_each
