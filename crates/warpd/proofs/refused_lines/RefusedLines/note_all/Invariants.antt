-- The replies that are left get fewer.
use Rattle.std.proofs.Common.{length}
use Rattle.warpd.proofs.refused_lines.RefusedLines.note_all.Given as goal

abbrev pub decreases-loop-reply : goal.decreases-loop-reply
decreases-loop-reply l = length l.rest
