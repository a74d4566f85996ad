-- So far no line feed was passed.
use Rattle.std.proofs.Common.{◌≤◌, ◌-◌, length}
use Rattle.warp_record.specs.Lines.{first_end}
use Rattle.warp_service.proofs.peer.line_len.Given as goal

abbrev pub invariant-loop-at : goal.invariant-loop-at
invariant-loop-at l = l.at ≤ first_end l.bytes

abbrev pub decreases-loop-at : goal.decreases-loop-at
decreases-loop-at l = length l.bytes - l.at
