use Rattle.warp_cases.specs.Timelines.{StandsFew}
use Rattle.warp_cases.proofs.timelines.make_calls.Given as goal

abbrev pub invariant-loop-line : goal.invariant-loop-line
invariant-loop-line g l = StandsFew g.T.Timeline.stands_for l.timeline l.fn.program l.calls
