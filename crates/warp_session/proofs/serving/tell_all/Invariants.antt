-- What is left tells what all tells.
use Rattle.std.proofs.Common.{◌≡◌}
use Rattle.warp_session.specs.Told.{told_all}
use Rattle.warp_session.proofs.serving.tell_all.Given as goal

abbrev pub invariant-loop-pull : goal.invariant-loop-pull
invariant-loop-pull g l =
    told_all l.pull-iterator.rest.items (g.D.Door.told l.door)
    ≡ told_all l.fn.called.ended.items (g.D.Door.told l.fn.door)
