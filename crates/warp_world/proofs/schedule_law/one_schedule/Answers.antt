use Rattle.warp_world.proofs.OneSchedule.{no_refusal, same_refusal, same_schedule}
use Rattle.warp_world.proofs.schedule_law.one_schedule.Goals as goal

pub returns-clause-schedule : goal.returns-clause-schedule
returns-clause-schedule c = same_schedule

pub returns-clause-line : goal.returns-clause-line
returns-clause-line c = same_refusal

pub returns-clause-either : goal.returns-clause-either
returns-clause-either c = no_refusal
