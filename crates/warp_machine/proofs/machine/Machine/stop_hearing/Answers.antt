use Rattle.std.proofs.Common.{refl}
use Rattle.warp_replica.specs.Answered.{facts_of}
use Rattle.warp_machine.specs.Moving.{IsHearing}
use Rattle.warp_machine.proofs.Joining.{hearing, stays_with}
use Rattle.warp_machine.proofs.machine.Machine.stop_hearing.Goals as goal

pub returns-then-not-deafen : goal.returns-then-not-deafen
returns-then-not-deafen g c = stays_with (facts_of g.T.Timeline.settled g.T.Timeline.refused g.T.Timeline.floor g.T.Timeline.SLACK) IsHearing c.args.self.now.clients c.args.self.now.clients refl

pub returns-in-Lines : goal.returns-in-Lines
returns-in-Lines g c = hearing (facts_of g.T.Timeline.settled g.T.Timeline.refused g.T.Timeline.floor g.T.Timeline.SLACK) c.args.who c.say.ensures.0 c.args.self.now.clients c.say.new.self.clients c.say.ensures.2
