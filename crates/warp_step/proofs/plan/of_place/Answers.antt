-- the first of the lists of flags in which the place is heeded
use Rattle.std.proofs.Common.{◌∙◌}
use Rattle.warp_step.proofs.HeededLemmas.{first_by_flags}
use Rattle.warp_step.proofs.plan.of_place.Goals as goal

pub returns-clause-first : goal.returns-clause-first
returns-clause-first c = c.first_heeding.ensures ∙ first_by_flags c.args.program.now _ c.args.number c.requires.place c.requires.flag_lists
