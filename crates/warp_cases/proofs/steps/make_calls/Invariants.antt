use Rattle.warp_step.specs.Scratch.{IsRoomOf}
use Rattle.warp_step.specs.Snapshot.{IsStateOf}
use Rattle.warp_cases.proofs.steps.make_calls.Given as goal

abbrev pub invariant-loop-line : goal.invariant-loop-line
invariant-loop-line g l = IsStateOf l.fn.program l.state × IsRoomOf l.fn.program l.scratch
