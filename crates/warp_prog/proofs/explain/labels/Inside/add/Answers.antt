use Rattle.warp_prog.proofs.LabelLemmas.{on_ok}
use Rattle.warp_prog.proofs.explain.labels.Inside.add.Goals as goal

pub returns-clause-variables : goal.returns-clause-variables
returns-clause-variables c = on_ok c.add_each-5.result (rw c.deref.ensures.value at c.in_ok-add_each.ensures)

pub returns-clause-timers : goal.returns-clause-timers
returns-clause-timers c = rw c.deref-5.ensures.value at c.add_each-5.ensures
