use Rattle.std.proofs.Common.{rules}
use Rattle.warp_board.proofs.Keeping.{counting, copying, joining}
use Rattle.warp_board.proofs.writer.meet.Goals as goal

pub split_seat-copy-requires : goal.split_seat-copy-requires
split_seat-copy-requires c = (search rules, search rules, copying _ _ _)

pub join_seat-requires : goal.join_seat-requires
join_seat-requires c = (search rules, search rules, search rules, search rules, joining _ _ _ _ _)

pub load-reader-inside-requires : goal.load-reader-inside-requires
load-reader-inside-requires c = (search rules, search rules, counting _ _ _ _)
