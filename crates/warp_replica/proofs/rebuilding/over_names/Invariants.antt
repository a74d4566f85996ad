-- The names before this place are in the run.
use Rattle.std.proofs.Common.{◌≡◌, None}
use Rattle.warp_replica.proofs.RebuiltNames.{AreIn}
use Rattle.warp_replica.proofs.rebuilding.over_names.Given as goal

abbrev pub invariant-loop-name : goal.invariant-loop-name
invariant-loop-name g l = record {
  names : AreIn g.T.Timeline.stands_for l.program l.names l.name-index l.fresh;
  floor : g.T.Timeline.floor l.fresh ≡ None;
}
