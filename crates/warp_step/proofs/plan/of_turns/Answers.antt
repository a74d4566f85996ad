-- each number of the order is that of a reaction
use Rattle.warp_step.proofs.TurnLemmas.{turn_of}
use Rattle.warp_step.proofs.plan.of_turns.Goals as goal

pub ready_reaction-requires-clause-number : goal.ready_reaction-requires-clause-number
ready_reaction-requires-clause-number c =
    (turn_of c.args.program.now c.order-number-items.result.now c.loop-number.number-index c.valid.ensures c.order-number-items.ensures c.loop-number-test.true).below
