use Rattle.warp_replica.proofs.Raised.{raised_to_only, raised_to_reply}
use Rattle.warp_replica.proofs.RaisedRecords.{raised_allows}
use Rattle.warp_replica.proofs.law.raised_to_replies.Goals as goal

pub returns-clause-allowed : goal.returns-clause-allowed
returns-clause-allowed c = raised_allows

pub returns-clause-same : goal.returns-clause-same
returns-clause-same c = raised_to_reply

pub returns-clause-only : goal.returns-clause-only
returns-clause-only c = raised_to_only
