use Rattle.warp_replica.specs.Answered.{facts_of}
use Rattle.warp_machine.specs.Moving.{IsPassing}
use Rattle.warp_machine.proofs.Joining.{joined, joined_with, kept_first, kept_on, moved_with}
use Rattle.warp_machine.proofs.machine.Machine.hand_on.Goals as goal

pub returns : goal.returns
returns g c =
    let facts = facts_of g.T.Timeline.settled g.T.Timeline.refused g.T.Timeline.floor g.T.Timeline.SLACK in
    let start = c.args.self.now.clients in
    let watched = joined facts start c.hand.new.clients c.note_watched.new.self.clients c.hand.ensures c.note_watched.ensures in
    let steps = joined facts start c.note_watched.new.self.clients c.hand_steps.new.self.clients watched c.hand_steps.ensures in
    let told = joined facts start c.hand_steps.new.self.clients c.tell_if_due.new.self.clients steps c.tell_if_due.ensures in
    let peers = joined_with facts IsPassing start c.tell_if_due.new.self.clients c.go_on_with_peers.new.self.clients
    (moved_with facts IsPassing start c.tell_if_due.new.self.clients told) c.go_on_with_peers.ensures in
    let looked = kept_first facts c.go_on_with_peers.new.self.clients c.compare_peers.new.self.clients c.look_at_changes.new.self.clients
    c.compare_peers.ensures c.look_at_changes.ensures in
    let closed = joined facts c.go_on_with_peers.new.self.clients c.look_at_changes.new.self.clients c.close_if_due.new.self.clients
    looked c.close_if_due.ensures in
    let grown = kept_on facts c.go_on_with_peers.new.self.clients c.close_if_due.new.self.clients c.note_growth.new.self.clients
    closed c.note_growth.ensures in
    joined_with facts IsPassing start c.go_on_with_peers.new.self.clients c.note_growth.new.self.clients peers
    (moved_with facts IsPassing c.go_on_with_peers.new.self.clients c.note_growth.new.self.clients grown)
