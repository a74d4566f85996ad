use Rattle.warp_replica.specs.Answered.{facts_of}
use Rattle.warp_machine.proofs.Joining.{joined}
use Rattle.warp_machine.proofs.machine.Machine.turn_clock.Goals as goal

pub returns : goal.returns
returns g c =
    let facts = facts_of g.T.Timeline.settled g.T.Timeline.refused g.T.Timeline.floor g.T.Timeline.SLACK in
    let start = c.args.self.now.clients in
    joined facts start c.close_if_woken.new.self.clients c.send_ticks.new.self.clients
    (joined facts start c.tell_clock.new.self.clients c.close_if_woken.new.self.clients c.tell_clock.ensures.moved c.close_if_woken.ensures)
    c.send_ticks.ensures
