use Rattle.std.proofs.Common.{rules}
use Rattle.warp_board.proofs.Keeping.{copying}
use Rattle.warp_board.proofs.reader.split_reader.Goals as goal

pub split_seat-seat-requires : goal.split_seat-seat-requires
split_seat-seat-requires c = (search rules, search rules, copying _ _ _)
