-- Each log is within what was made by the end, which the program takes.
use Rattle.warp_table.specs.Records.{set_of}
use Rattle.warp_replica.proofs.ReleasedLists.{released_agree, released_stays}
use Rattle.warp_world.specs.World.{world_after}
use Rattle.warp_world.proofs.LogsOfFronts.{early_within, front_within, made_taken}
use Rattle.warp_world.proofs.moves_law.released_fronts.Goals as goal

pub returns-clause-agree : goal.returns-clause-agree
returns-clause-agree c P count moves i j one other left right a b honest at_left at_right h k =
    released_agree P (set_of left) (set_of right) (world_after P count moves).made a b honest (made_taken P count moves)
    (front_within P count moves i one left at_left) (front_within P count moves j other right at_right) h k

pub returns-clause-stays : goal.returns-clause-stays
returns-clause-stays c P count moves i j replica early late a b honest le stays at_early at_late h k =
    released_stays P (set_of early) (set_of late) (world_after P count moves).made a b honest (made_taken P count moves)
    (early_within P count moves i j replica early late le stays at_early at_late)
    (front_within P count moves j replica late at_late) h k
