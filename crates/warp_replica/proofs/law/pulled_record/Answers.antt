use Rattle.warp_replica.proofs.PulledRecords.{pulled_record}
use Rattle.warp_replica.proofs.law.pulled_record.Goals as goal

pub returns : goal.returns
returns c = pulled_record
