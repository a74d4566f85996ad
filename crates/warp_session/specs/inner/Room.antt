-- What is kept of the pulls that run: for serving's private functions alone. No contract of a public call cites this.
use Rattle.std.specs.Prelude.{◌≡◌, ℕ, ◌≤◌, List, [], map, vec_capacity}
use Rattle.warp_session.specs.declared.serving.Room.{Room}
use Rattle.warp_session.specs.declared.serving.RunningPull.{RunningPull}

-- the numbers of the peers that are pulled from
abbrev pub running_of : List RunningPull → List ℕ
running_of pulls = map (λ pull. pull.peer) pulls

-- there is room for so many pulls, and none is kept yet
pub record HasRoom (pulls : ℕ) (room : Room) : Type 0 where
  pub running : pulls ≤ vec_capacity room.running
  pub ended : pulls ≤ vec_capacity room.ended
  pub none_runs : room.running.items ≡ []
  pub none_ended : room.ended.items ≡ []
