-- So many replicas are there, each with an empty log.
use Rattle.std.proofs.Common.{◌≡◌, [], replicate}
use Rattle.warp_world.specs.Replicas.{RunAll, logs_of}
use Rattle.warp_world.proofs.world.World.start.Given as goal

abbrev pub invariant-loop : goal.invariant-loop
invariant-loop g l = record {
  logs : logs_of l.replicas.items ≡ replicate l.counter [];
  programs : RunAll l.program l.replicas.items;
}
