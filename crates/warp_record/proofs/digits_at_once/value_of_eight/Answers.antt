use Rattle.warp_record.proofs.EightDigits.{eight_is}
use Rattle.warp_record.proofs.digits_at_once.value_of_eight.Goals as goal

pub returns : goal.returns
returns c ds eight e = eight_is ds c.args.word eight e
