use Rattle.warp_tag.specs.declared.form.Form.TheVariants.{Two}
use Rattle.warp_replica.proofs.Raised.{raised_only, raised_reply}
use Rattle.warp_replica.proofs.RaisedRecords.{raised_allows}
use Rattle.warp_replica.proofs.law.raised_replies.Goals as goal

pub returns-clause-allowed : goal.returns-clause-allowed
returns-clause-allowed c = raised_allows Two

pub returns-clause-same : goal.returns-clause-same
returns-clause-same c = raised_reply

pub returns-clause-only : goal.returns-clause-only
returns-clause-only c = raised_only
