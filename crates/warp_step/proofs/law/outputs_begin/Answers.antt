-- the outputs before a tag are a front, and all behind them are not before it
use Rattle.warp_step.proofs.OutputsBefore.{later_begins, whole_begins, front_taken}
use Rattle.warp_step.proofs.law.outputs_begin.Goals as goal

pub returns-clause-later : goal.returns-clause-later
returns-clause-later c = later_begins

pub returns-clause-whole : goal.returns-clause-whole
returns-clause-whole c = whole_begins

pub returns-clause-taken : goal.returns-clause-taken
returns-clause-taken c = front_taken
