use Rattle.warp_replica.specs.Answered.{facts_of}
use Rattle.warp_machine.proofs.Joining.{renewed, renewed_first}
use Rattle.warp_machine.proofs.machine.Machine.take_tokens.Goals as goal

pub returns : goal.returns
returns g c = renewed_first (facts_of g.T.Timeline.settled g.T.Timeline.refused g.T.Timeline.floor g.T.Timeline.SLACK) c.args.lines c.args.self.now.clients c.close_who_lost-closed.new.self.clients c.take_tokens.new.self c.close_who_lost-closed.ensures (renewed (facts_of g.T.Timeline.settled g.T.Timeline.refused g.T.Timeline.floor g.T.Timeline.SLACK) c.args.lines c.close_who_lost-closed.new.self.clients c.take_tokens.new.self c.take_tokens.ensures.some c.take_tokens.ensures.none)
