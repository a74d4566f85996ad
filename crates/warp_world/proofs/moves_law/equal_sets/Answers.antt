use Rattle.warp_table.specs.Records.{set_of}
use Rattle.warp_replica.proofs.Replies.{same_answers}
use Rattle.warp_world.proofs.moves_law.equal_sets.Goals as goal

pub returns : goal.returns
returns c P count front one other left right a b at_one at_other same h k =
    same_answers P (set_of left) (set_of right) same a b h k
