-- no action's name stands twice, so the timers decide
use Rattle.warp_prog.proofs.Anys.{second_decides}
use Rattle.warp_prog.proofs.stands_twice.cause_names_repeat.Goals as goal

pub returns-else-any_stands_twice : goal.returns-else-any_stands_twice
returns-else-any_stands_twice c =
    let actions = rw c.deref.ensures.value at c.any_stands_twice.ensures in
    let timers = rw c.deref-else-any_stands_twice.ensures.value at c.any_stands_twice-else-any_stands_twice.ensures in
    second_decides _ _ _ _ actions c.if-any_stands_twice.false timers
