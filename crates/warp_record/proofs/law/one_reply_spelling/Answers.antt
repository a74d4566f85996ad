use Rattle.warp_record.proofs.WordReadings.{same_reply}
use Rattle.warp_record.proofs.law.one_reply_spelling.Goals as goal

pub returns : goal.returns
returns c = same_reply
