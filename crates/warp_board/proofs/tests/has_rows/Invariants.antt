use Rattle.std.proofs.Common.{◌≡◌}
use Rattle.warp_board.proofs.tests.has_rows.Given as goal

abbrev pub invariant-loop-place : goal.invariant-loop-place
invariant-loop-place l = l.reader.board ≡ l.board
