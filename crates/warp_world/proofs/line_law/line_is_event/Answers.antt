-- whether the log takes the record in decides what making and carrying do, and how a line takes it
use Rattle.std.proofs.Common.{refl}
use Rattle.warp_world.proofs.LineMoves.{answered, carried, logs, made, made_again, void}
use Rattle.warp_world.proofs.line_law.line_is_event.Goals as goal

pub returns-clause-logs : goal.returns-clause-logs
returns-clause-logs c P w replica log after said answer at = logs P w replica log after at said answer

pub returns-clause-taken : goal.returns-clause-taken
returns-clause-taken c P w replica place log after said at = made P w replica log at said place after

pub returns-clause-again : goal.returns-clause-again
returns-clause-again c P w replica place log after said at = made_again P w replica log at said place after

pub returns-clause-carried : goal.returns-clause-carried
returns-clause-carried c P w replica place from entry log after said at =
    carried P w replica log at said place from entry after

pub returns-clause-answered : goal.returns-clause-answered
returns-clause-answered c P w replica log after = answered P w replica log after

pub returns-clause-void : goal.returns-clause-void
returns-clause-void c P w replica log after said answer at = void P w replica log at said answer after

pub returns-clause-collected : goal.returns-clause-collected
returns-clause-collected c P w replica = refl
