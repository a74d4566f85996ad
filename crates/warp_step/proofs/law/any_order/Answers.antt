-- reactions of which neither precedes the other may change places
use Rattle.warp_step.proofs.SameParts.{valid_in}
use Rattle.warp_step.proofs.SameSteps.{outputs_alike, reacted_alike, run_alike, state_alike}
use Rattle.warp_step.proofs.law.any_order.Goals as goal

pub returns-clause-valid : goal.returns-clause-valid
returns-clause-valid c = valid_in

pub returns-clause-reacted : goal.returns-clause-reacted
returns-clause-reacted c = λ P a b s t X valid one two. reacted_alike P a b valid one two s t X

pub returns-clause-state : goal.returns-clause-state
returns-clause-state c = λ P a b s t X valid one two. state_alike P a b valid one two s t X

pub returns-clause-outputs : goal.returns-clause-outputs
returns-clause-outputs c = λ P a b s t X valid one two. outputs_alike P a b valid one two s t X

pub returns-clause-run : goal.returns-clause-run
returns-clause-run c = λ P a b E trace valid one two. run_alike P a b valid one two E trace
