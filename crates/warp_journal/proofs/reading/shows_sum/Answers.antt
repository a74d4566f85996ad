-- an equals sign is there exactly if one was found
use Rattle.std.proofs.Common.{sym}
use Rattle.warp_journal.proofs.Signs.{has_none, has_some}
use Rattle.warp_journal.proofs.reading.shows_sum.Goals as goal

pub returns-in-Some : goal.returns-in-Some
returns-in-Some c = sym (has_some c.args.text.now c.in-Some.field-0 c.in-Some.ensures)

pub returns-in-None : goal.returns-in-None
returns-in-None c = sym (has_none c.args.text.now c.in-None.ensures)
