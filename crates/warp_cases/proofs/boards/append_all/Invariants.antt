use Rattle.std.proofs.Common.{◌≡◌}
use Rattle.warp_cases.proofs.boards.append_all.Given as goal

abbrev pub invariant-loop-number : goal.invariant-loop-number
invariant-loop-number l = l.writer.board ≡ l.board
