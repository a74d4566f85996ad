-- an entry that comes in keeps the order
use Rattle.warp_step.proofs.PendingLemmas.{order_as}
use Rattle.warp_step.proofs.state.State.enter_anywhere.Goals as goal

pub invariant_of-self-else-not-enter_entry : goal.invariant_of-self-else-not-enter_entry
invariant_of-self-else-not-enter_entry c = (
  order_as c.args.tag c.args.target _ c.self.inside.pending c.enter_entry.new.entries c.enter_entry.result c.self.invariant.0 c.enter_entry.ensures.entries,
  c.self.invariant.1,
)
