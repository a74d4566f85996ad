use Rattle.warp_record.specs.Line.{line_words}
use Rattle.warp_record.specs.Reply.{reply_words}
use Rattle.warp_record.proofs.PlainWords.{joined_if_plain, plain_line, plain_reply}
use Rattle.warp_record.proofs.law.no_line_feed.Goals as goal

pub returns-clause-lines : goal.returns-clause-lines
returns-clause-lines c = λ line fits. joined_if_plain (line_words line) (plain_line line fits)

pub returns-clause-replies : goal.returns-clause-replies
returns-clause-replies c = λ reply fits. joined_if_plain (reply_words reply) (plain_reply reply fits)
