use Rattle.warp_record.proofs.Wider.{line_widens, record_widens, reply_widens}
use Rattle.warp_record.proofs.law.wider_line.Goals as goal

pub returns-clause-lines : goal.returns-clause-lines
returns-clause-lines c = line_widens

pub returns-clause-records : goal.returns-clause-records
returns-clause-records c = record_widens

pub returns-clause-replies : goal.returns-clause-replies
returns-clause-replies c = reply_widens
