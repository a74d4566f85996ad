use Rattle.std.proofs.Common.{ap}
use Rattle.warp_replica.specs.Answered.{facts_of}
use Rattle.warp_machine.specs.Keeping.{keepings}
use Rattle.warp_machine.proofs.Keepings.{kept_behind, kept_none}
use Rattle.warp_machine.proofs.machine.Machine.hear_one.Goals as goal

pub returns : goal.returns
returns g c = kept_behind (facts_of g.T.Timeline.settled g.T.Timeline.refused g.T.Timeline.floor g.T.Timeline.SLACK) (keepings c.args.self.now.conns) (keepings c.gives_way.new.self.conns) c.args.who c.args.self.now.clients c.gives_way.new.self.clients c.say.new.self.clients c.gives_way.ensures.clients (ap keepings c.gives_way.ensures.conns) c.say.ensures

pub returns-then-gives_way : goal.returns-then-gives_way
returns-then-gives_way g c = kept_none (facts_of g.T.Timeline.settled g.T.Timeline.refused g.T.Timeline.floor g.T.Timeline.SLACK) (keepings c.args.self.now.conns) c.args.who c.args.self.now.clients c.gives_way.new.self.clients c.gives_way.ensures.clients
