use Rattle.std.proofs.Common.{refl}
use Rattle.warp_replica.specs.Answered.{facts_of}
use Rattle.warp_machine.specs.Moving.{IsHearing}
use Rattle.warp_machine.proofs.Joining.{stays_with}
use Rattle.warp_machine.proofs.machine.Machine.obey.Goals as goal

pub returns-in-Status : goal.returns-in-Status
returns-in-Status g c = stays_with (facts_of g.T.Timeline.settled g.T.Timeline.refused g.T.Timeline.floor g.T.Timeline.SLACK) IsHearing c.args.self.now.clients c.status.new.self.clients c.status.ensures

pub returns-in-Tokens : goal.returns-in-Tokens
returns-in-Tokens g c = stays_with (facts_of g.T.Timeline.settled g.T.Timeline.refused g.T.Timeline.floor g.T.Timeline.SLACK) IsHearing c.args.self.now.clients c.args.self.now.clients refl

pub returns-in-LogLevel : goal.returns-in-LogLevel
returns-in-LogLevel g c = stays_with (facts_of g.T.Timeline.settled g.T.Timeline.refused g.T.Timeline.floor g.T.Timeline.SLACK) IsHearing c.args.self.now.clients c.args.self.now.clients refl
