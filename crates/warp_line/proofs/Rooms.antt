-- Rooms of lists.
use Rattle.std.proofs.Common.{ℕ, List, [], ◌∷◌, arith}
use Rattle.warp_line.specs.Timeline.{TakesNoRoom}

-- where each list has the room that it had, none has more
pub takes_none : (rooms : List ℕ) → TakesNoRoom rooms rooms
takes_none [] = tt
takes_none (n ∷ ns) = (omega arith, takes_none ns)
