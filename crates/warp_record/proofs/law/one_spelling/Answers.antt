use Rattle.warp_record.proofs.WordReadings.{same_line}
use Rattle.warp_record.proofs.law.one_spelling.Goals as goal

pub returns : goal.returns
returns c = same_line
