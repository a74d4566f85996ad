use Rattle.std.proofs.Common.{rules}
use Rattle.warp_board.proofs.Keeping.{raising}
use Rattle.warp_board.proofs.writer.Writer.freeze.Goals as goal

pub store-requires : goal.store-requires
store-requires c = (search rules, search rules, raising _ _ _ _ (search rules))
