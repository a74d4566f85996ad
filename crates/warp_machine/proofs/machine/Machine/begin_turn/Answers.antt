use Rattle.warp_replica.specs.Answered.{facts_of}
use Rattle.warp_machine.specs.Moving.{IsHearing}
use Rattle.warp_machine.proofs.Joining.{joined_with, kept_first, moved_with}
use Rattle.warp_machine.proofs.machine.Machine.begin_turn.Goals as goal

pub returns : goal.returns
returns g c =
    let facts = facts_of g.T.Timeline.settled g.T.Timeline.refused g.T.Timeline.floor g.T.Timeline.SLACK in
    let start = c.args.self.now.clients in
    let turned = kept_first facts start c.time_answers.new.self.clients c.turn_clock.new.self.clients c.time_answers.ensures c.turn_clock.ensures in
    let heard = joined_with facts IsHearing start c.turn_clock.new.self.clients c.hear_all.new.self.clients
    (moved_with facts IsHearing start c.turn_clock.new.self.clients turned) c.hear_all.ensures in
    joined_with facts IsHearing start c.hear_all.new.self.clients c.note_watched.new.self.clients heard
    (moved_with facts IsHearing c.hear_all.new.self.clients c.note_watched.new.self.clients c.note_watched.ensures)
