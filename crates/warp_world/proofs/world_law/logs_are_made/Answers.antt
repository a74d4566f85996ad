use Rattle.warp_world.specs.World.{world_after}
use Rattle.warp_world.proofs.SoundLogs.{All_at, IsSoundLog, sound_after}
use Rattle.warp_world.proofs.world_law.logs_are_made.Goals as goal

pub returns-clause-once : goal.returns-clause-once
returns-clause-once c P count moves replica log at =
    let w = world_after P count moves in
    (All_at (IsSoundLog P.form w.made) w.logs replica log (sound_after P count moves).logs at).once

pub returns-clause-few : goal.returns-clause-few
returns-clause-few c P count moves replica log at =
    let w = world_after P count moves in
    (All_at (IsSoundLog P.form w.made) w.logs replica log (sound_after P count moves).logs at).few

pub returns-clause-within : goal.returns-clause-within
returns-clause-within c P count moves replica log at =
    let w = world_after P count moves in
    (All_at (IsSoundLog P.form w.made) w.logs replica log (sound_after P count moves).logs at).within

pub returns-clause-taken : goal.returns-clause-taken
returns-clause-taken c P count moves = (sound_after P count moves).taken
