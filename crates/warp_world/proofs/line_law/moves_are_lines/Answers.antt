-- no log of a world is longer than it may be
use Rattle.warp_world.specs.World.{world_after}
use Rattle.warp_world.proofs.LineMoves.{may_put}
use Rattle.warp_world.proofs.SoundLogs.{All_at, IsSoundLog, sound_after}
use Rattle.warp_world.proofs.line_law.moves_are_lines.Goals as goal

pub returns : goal.returns
returns c P count moves replica log said at =
    let w = world_after P count moves in
    let sound = All_at (IsSoundLog P.form w.made) w.logs replica log (sound_after P count moves).logs at in
    may_put P w replica log at said sound.few
