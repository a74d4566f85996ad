use Rattle.std.proofs.Common.{◌≡◌}
use Rattle.warp_board.proofs.tests.fill.Given as goal

abbrev pub invariant-loop-place : goal.invariant-loop-place
invariant-loop-place g l = l.writer.board ≡ l.board
