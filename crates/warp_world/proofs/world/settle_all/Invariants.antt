-- So many replicas are settled, and none has another log or another program, or has let go of more.
use Rattle.std.proofs.Common.{◌≡◌, All, IsTrue, map, take}
use Rattle.warp_world.specs.Replicas.{logs_of}
use Rattle.warp_world.proofs.world.settle_all.Given as goal

abbrev pub invariant-loop-each : goal.invariant-loop-each
invariant-loop-each g l = record {
  logs : logs_of l.replicas ≡ logs_of l.fn.replicas;
  programs : map (λ r. r.program) l.replicas ≡ map (λ r. r.program) l.fn.replicas;
  floors : map (λ r. g.T.Timeline.floor r.timeline) l.replicas ≡ map (λ r. g.T.Timeline.floor r.timeline) l.fn.replicas;
  settled : All (λ r. IsTrue (g.T.Timeline.settled r.timeline)) (take l.each-index l.replicas);
}
