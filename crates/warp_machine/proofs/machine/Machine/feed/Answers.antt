use Rattle.warp_replica.specs.Answered.{facts_of}
use Rattle.warp_machine.specs.Keeping.{keepings}
use Rattle.warp_machine.proofs.Keepings.{kept_then}
use Rattle.warp_machine.proofs.machine.Machine.feed.Goals as goal

pub returns-in-Some-take_end : goal.returns-in-Some-take_end
returns-in-Some-take_end g c = kept_then (facts_of g.T.Timeline.settled g.T.Timeline.refused g.T.Timeline.floor g.T.Timeline.SLACK) (keepings c.args.self.now.conns) c.args.who c.args.self.now.clients c.hear_rest.new.clients c.end_client.new.self.clients c.hear_rest.ensures c.end_client.ensures
