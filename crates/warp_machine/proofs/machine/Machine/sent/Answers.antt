use Rattle.warp_replica.specs.Answered.{facts_of}
use Rattle.warp_machine.proofs.Joining.{joined, kept_on, writes_first, writes_on}
use Rattle.warp_machine.proofs.machine.Machine.sent.Goals as goal

pub returns : goal.returns
returns g c = writes_first (facts_of g.T.Timeline.settled g.T.Timeline.refused g.T.Timeline.floor g.T.Timeline.SLACK) c.args.who c.args.count c.args.self.now.clients c.time_answers.new.self.clients c.go_on_behind.new.self.clients c.time_answers.ensures (writes_on (facts_of g.T.Timeline.settled g.T.Timeline.refused g.T.Timeline.floor g.T.Timeline.SLACK) c.args.who c.args.count c.time_answers.new.self.clients c.written.new.clients c.go_on_behind.new.self.clients c.written.ensures (kept_on (facts_of g.T.Timeline.settled g.T.Timeline.refused g.T.Timeline.floor g.T.Timeline.SLACK) c.written.new.clients c.push_skipped.new.self.clients c.go_on_behind.new.self.clients (joined (facts_of g.T.Timeline.settled g.T.Timeline.refused g.T.Timeline.floor g.T.Timeline.SLACK) c.written.new.clients c.look_at_changes.new.self.clients c.push_skipped.new.self.clients c.look_at_changes.ensures c.push_skipped.ensures) c.go_on_behind.ensures))
