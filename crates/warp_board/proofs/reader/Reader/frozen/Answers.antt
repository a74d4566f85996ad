use Rattle.std.proofs.Common.{rules}
use Rattle.warp_board.proofs.Keeping.{flagging}
use Rattle.warp_board.proofs.reader.Reader.frozen.Goals as goal

pub load-requires : goal.load-requires
load-requires c = (search rules, search rules, flagging _ _ _ _)
