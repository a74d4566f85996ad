-- So many moves have happened.
use Rattle.std.proofs.Common.{◌≡◌, take}
use Rattle.warp_world.specs.Replicas.{RunAll, logs_of}
use Rattle.warp_world.specs.World.{world_after}
use Rattle.warp_world.proofs.world.play.Given as goal

abbrev pub invariant-loop-next : goal.invariant-loop-next
invariant-loop-next g l = record {
  logs : logs_of l.world ≡ (world_after l.program l.fn.count (take l.next-index l.moves)).logs;
  programs : RunAll l.program l.world;
}
