use Rattle.std.proofs.Common.{refl}
use Rattle.warp_replica.specs.Answered.{facts_of}
use Rattle.warp_clients.proofs.Moving.{run_none, run_noted, run_on}
use Rattle.warp_clients.proofs.clients.Clients.tell_counted.Goals as goal

pub loop-init : goal.loop-init
loop-init g c = run_none (facts_of g.T.Timeline.settled g.T.Timeline.refused g.T.Timeline.floor g.T.Timeline.SLACK) c.args.self.now c.args.self.now refl

pub loop-preserved : goal.loop-preserved
loop-preserved g c =
    let facts = facts_of g.T.Timeline.settled g.T.Timeline.refused g.T.Timeline.floor g.T.Timeline.SLACK in
    run_on facts c.args.self.now c.next_counted.new.self c.tell_digest.new.self
    (run_noted facts c.args.self.now c.loop.self c.next_counted.new.self c.loop.invariant c.next_counted.ensures) c.tell_digest.ensures

pub returns-in_default : goal.returns-in_default
returns-in_default g c = run_noted (facts_of g.T.Timeline.settled g.T.Timeline.refused g.T.Timeline.floor g.T.Timeline.SLACK) c.args.self.now c.loop.self c.next_counted.new.self c.loop.invariant c.next_counted.ensures
