use Rattle.warp_record.proofs.Wider.{line_kept, record_kept, reply_kept}
use Rattle.warp_record.proofs.law.line_of_wider_form.Goals as goal

pub returns-clause-lines : goal.returns-clause-lines
returns-clause-lines c = line_kept

pub returns-clause-records : goal.returns-clause-records
returns-clause-records c = record_kept

pub returns-clause-replies : goal.returns-clause-replies
returns-clause-replies c = reply_kept
