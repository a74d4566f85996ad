use Rattle.warp_replica.specs.Answered.{facts_of}
use Rattle.warp_machine.specs.Moving.{IsPassing}
use Rattle.warp_machine.proofs.Joining.{joined_with, with_on}
use Rattle.warp_machine.proofs.machine.Machine.go_on_once.Goals as goal

pub returns : goal.returns
returns g c = with_on (facts_of g.T.Timeline.settled g.T.Timeline.refused g.T.Timeline.floor g.T.Timeline.SLACK) IsPassing c.args.self.now.clients c.answer_peer-heard.new.self.clients c.note_went_on.new.self.clients (joined_with (facts_of g.T.Timeline.settled g.T.Timeline.refused g.T.Timeline.floor g.T.Timeline.SLACK) IsPassing c.args.self.now.clients c.feed_from-fed.new.self.clients c.answer_peer-heard.new.self.clients c.feed_from-fed.ensures c.answer_peer-heard.ensures) c.note_went_on.ensures
