use Rattle.std.proofs.Common.{◌≡◌}
use Rattle.warp_cases.proofs.boards.fill_all.Given as goal

abbrev pub invariant-loop-line : goal.invariant-loop-line
invariant-loop-line l = l.reader.board ≡ l.board
