-- where no line is spelled, no record is
use Rattle.warp_record.specs.declared.line.Line.TheVariants.{Put}
use Rattle.warp_journal.proofs.journal.read_said.Goals as goal

pub returns-in-None-clause-none : goal.returns-in-None-clause-none
returns-in-None-clause-none c = λ said. c.in-None.ensures.none (Put said)
