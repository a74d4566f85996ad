use Rattle.std.proofs.Common.{sym, arith}
use Rattle.warp_service.proofs.PauseLemmas.{longest, shifted}
use Rattle.warp_service.proofs.contact.pause_behind.Goals as goal

pub returns-then-losses-ge-MOST_LOSSES : goal.returns-then-losses-ge-MOST_LOSSES
returns-then-losses-ge-MOST_LOSSES c = sym (longest c.args.losses (grind (c.if-losses-ge-MOST_LOSSES.true, arith)))

pub returns : goal.returns
returns c = shifted c.args.losses (grind (c.if-losses-ge-MOST_LOSSES.false, arith))
