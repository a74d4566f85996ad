use Rattle.std.proofs.Common.{rules}
use Rattle.warp_board.proofs.Keeping.{counting}
use Rattle.warp_board.proofs.reader.Reader.count.Goals as goal

pub load-count-requires : goal.load-count-requires
load-count-requires c = (search rules, search rules, counting _ _ _ _)
