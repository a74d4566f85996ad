use Rattle.std.proofs.Common.{◌∙◌}
use Rattle.warp_record.proofs.EightDigits.{lanes_are}
use Rattle.warp_record.proofs.digits_at_once.load_lanes.Goals as goal

pub returns : goal.returns
returns c = c.from_le_bytes.ensures ∙ lanes_are c.args.bytes.now c.requires
