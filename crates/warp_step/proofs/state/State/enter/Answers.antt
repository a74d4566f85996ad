-- an entry that comes in keeps the order
use Rattle.warp_step.proofs.PendingLemmas.{order_as}
use Rattle.warp_step.proofs.state.State.enter.Goals as goal

pub invariant_of-self-else-not-enter_last : goal.invariant_of-self-else-not-enter_last
invariant_of-self-else-not-enter_last c = (
  order_as c.args.tag c.args.target _ c.self.inside.pending c.enter_last.new.entries c.enter_last.result c.self.invariant.0 c.enter_last.ensures.entries,
  c.self.invariant.1,
)
