-- existence goes by how many tags are left in a box that holds the program and its events
use Rattle.std.proofs.Common.{None}
use Rattle.warp_step.proofs.TraceLemmas.{one_rest}
use Rattle.warp_step.proofs.TraceExists.{exists}
use Rattle.warp_step.specs.Snapshot.{start_state}
use Rattle.warp_step.proofs.law.one_trace.Goals as goal

pub returns-clause-unique : goal.returns-clause-unique
returns-clause-unique c = λ P E a b h k. one_rest P E None (start_state P) a b h k

pub returns-clause-exists : goal.returns-clause-exists
returns-clause-exists c = exists
