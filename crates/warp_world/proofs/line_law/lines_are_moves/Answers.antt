-- line by line
use Rattle.warp_world.proofs.LineMoves.{logs_later}
use Rattle.warp_world.proofs.LineRecords.{made_later}
use Rattle.warp_world.proofs.line_law.lines_are_moves.Goals as goal

pub returns-clause-logs : goal.returns-clause-logs
returns-clause-logs c = logs_later

pub returns-clause-made : goal.returns-clause-made
returns-clause-made c = made_later
