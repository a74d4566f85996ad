use Rattle.std.proofs.Common.{refl}
use Rattle.warp_replica.specs.Answered.{facts_of}
use Rattle.warp_clients.proofs.Moving.{run_none, run_noted, run_on}
use Rattle.warp_clients.proofs.clients.Clients.tell_words.Goals as goal

pub loop-init : goal.loop-init
loop-init g c = run_none (facts_of g.T.Timeline.settled g.T.Timeline.refused g.T.Timeline.floor g.T.Timeline.SLACK) c.args.self.now c.args.self.now refl

pub loop-preserved : goal.loop-preserved
loop-preserved g c = run_noted (facts_of g.T.Timeline.settled g.T.Timeline.refused g.T.Timeline.floor g.T.Timeline.SLACK) c.args.self.now c.speak_told.new.self c.note.new.self (run_on (facts_of g.T.Timeline.settled g.T.Timeline.refused g.T.Timeline.floor g.T.Timeline.SLACK) c.args.self.now c.next_told.new.self c.speak_told.new.self (run_noted (facts_of g.T.Timeline.settled g.T.Timeline.refused g.T.Timeline.floor g.T.Timeline.SLACK) c.args.self.now c.loop.self c.next_told.new.self c.loop.invariant c.next_told.ensures) c.speak_told.ensures.run) c.note.ensures

pub returns-in_default : goal.returns-in_default
returns-in_default g c = run_noted (facts_of g.T.Timeline.settled g.T.Timeline.refused g.T.Timeline.floor g.T.Timeline.SLACK) c.args.self.now c.loop.self c.next_told.new.self c.loop.invariant c.next_told.ensures
