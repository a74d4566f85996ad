-- no reaction precedes an earlier one
use Rattle.warp_step.proofs.FileOrder.{file_order_admissible}
use Rattle.warp_step.proofs.law.file_order_is_admissible.Goals as goal

pub returns : goal.returns
returns c = file_order_admissible
