use Rattle.std.proofs.Common.{arith}
use Rattle.warp_record.proofs.FrontLines.{line_fronts}
use Rattle.warp_record.proofs.front.read_front.Goals as goal

pub returns : goal.returns
returns c = line_fronts c.args.form c.args.bytes.now c.front_line.result (omega (arith, c.if-bytes-lt-FRONT_ROOM.false)) c.front_line.ensures
