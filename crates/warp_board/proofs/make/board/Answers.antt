use Rattle.std.proofs.Common.{rules}
use Rattle.warp_board.proofs.Keeping.{beginning, copying}
use Rattle.warp_board.proofs.make.board.Goals as goal

pub of_words-requires : goal.of_words-requires
of_words-requires c = beginning _ _ (search rules)

pub split_seat-reader-requires : goal.split_seat-reader-requires
split_seat-reader-requires c = (search rules, search rules, copying _ _ _)
