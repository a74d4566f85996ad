use Rattle.warp_replica.specs.Answered.{facts_of}
use Rattle.warp_machine.proofs.Joining.{kept_first, kept_on}
use Rattle.warp_machine.proofs.machine.Machine.next.Goals as goal

pub returns : goal.returns
returns g c = kept_on (facts_of g.T.Timeline.settled g.T.Timeline.refused g.T.Timeline.floor g.T.Timeline.SLACK) c.args.self.now.clients c.next_of_conns.new.self.clients c.next_of_others.new.self.clients (kept_first (facts_of g.T.Timeline.settled g.T.Timeline.refused g.T.Timeline.floor g.T.Timeline.SLACK) c.args.self.now.clients c.next_of_all.new.self.clients c.next_of_conns.new.self.clients c.next_of_all.ensures c.next_of_conns.ensures) c.next_of_others.ensures
