-- What a door hears of pulls: which peers' pulls ended, and how.
use Rattle.std.specs.Prelude.{ℕ, List, [], ◌∷◌, ◌++◌, Option, map}
use Rattle.std.specs.Option.{option_map}
use Rattle.warp_session.specs.declared.door.Peer.{Peer}
use Rattle.warp_session.specs.declared.pulling.PullEnd.{PullEnd}
use Rattle.warp_session.specs.declared.serving.EndedPull.{EndedPull}

-- the numbers of peers and how their pulls ended, in order, if that is told; and behind them one more
abbrev pub told_more : ℕ → PullEnd → Option (List (ℕ × PullEnd)) → Option (List (ℕ × PullEnd))
told_more peer end told = option_map (λ ends. ends ++ (peer, end) ∷ []) told

-- the same, and behind them these, one after another
abbrev pub told_all : List EndedPull → Option (List (ℕ × PullEnd)) → Option (List (ℕ × PullEnd))
told_all [] told = told
told_all (pull ∷ pulls) told = told_all pulls (told_more pull.peer pull.end told)

-- the numbers of these peers
abbrev pub numbers_of : {R W : Type 0} → List (Peer R W) → List ℕ
numbers_of peers = map (λ peer. peer.number) peers

-- the numbers of the peers whose pulls these are
abbrev pub ended_of : List EndedPull → List ℕ
ended_of pulls = map (λ pull. pull.peer) pulls
