use Rattle.std.proofs.Common.{◌≡◌}
use Rattle.warp_board.proofs.tests.follow.Given as goal

abbrev pub invariant-loop-turn : goal.invariant-loop-turn
invariant-loop-turn g l = l.reader.board ≡ l.board
