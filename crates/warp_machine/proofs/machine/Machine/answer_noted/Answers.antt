use Rattle.warp_replica.specs.Answered.{facts_of}
use Rattle.warp_machine.proofs.Joining.{joined, kept_on}
use Rattle.warp_machine.proofs.machine.Machine.answer_noted.Goals as goal

pub returns-then-ne : goal.returns-then-ne
returns-then-ne g c = joined (facts_of g.T.Timeline.settled g.T.Timeline.refused g.T.Timeline.floor g.T.Timeline.SLACK) c.args.self.now.clients c.show-shown.new.self.clients c.work-worked.new.clients (joined (facts_of g.T.Timeline.settled g.T.Timeline.refused g.T.Timeline.floor g.T.Timeline.SLACK) c.args.self.now.clients c.settle.new.self.clients c.show-shown.new.self.clients c.settle.ensures c.show-shown.ensures) c.work-worked.ensures

pub returns : goal.returns
returns g c =
    let facts = facts_of g.T.Timeline.settled g.T.Timeline.refused g.T.Timeline.floor g.T.Timeline.SLACK in
    let start = c.args.self.now.clients in
    let shown = joined facts start c.settle.new.self.clients c.show-shown.new.self.clients c.settle.ensures c.show-shown.ensures in
    let worked = joined facts start c.show-shown.new.self.clients c.work-worked.new.clients shown c.work-worked.ensures in
    let executed = joined facts start c.work-worked.new.clients c.execute.new.clients worked c.execute.ensures in
    let noted = kept_on facts start c.execute.new.clients c.note_rows.new.self.clients executed c.note_rows.ensures in
    kept_on facts start c.note_rows.new.self.clients c.keep_noted.new.self.clients noted c.keep_noted.ensures
