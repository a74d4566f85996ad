use Rattle.std.proofs.Common.{rules}
use Rattle.warp_board.proofs.Keeping.{counting, joining}
use Rattle.warp_board.proofs.reader.join_readers.Goals as goal

pub join_seat-requires : goal.join_seat-requires
join_seat-requires c = (search rules, search rules, search rules, search rules, joining _ _ _ _ _)

pub load-requires : goal.load-requires
load-requires c = (search rules, search rules, counting _ _ _ _)
