use Rattle.std.proofs.Common.{ap}
use Rattle.warp_replica.specs.Answered.{facts_of}
use Rattle.warp_machine.specs.Keeping.{keepings}
use Rattle.warp_machine.proofs.Keepings.{behind_as, behind_first}
use Rattle.warp_machine.proofs.machine.Machine.bytes.Goals as goal

pub returns-clause-hears : goal.returns-clause-hears
returns-clause-hears g c =
    let facts = facts_of g.T.Timeline.settled g.T.Timeline.refused g.T.Timeline.floor g.T.Timeline.SLACK in
    let old = keepings c.args.self.now.conns in
    behind_first facts old c.args.who c.args.bytes.now c.args.self.now.clients c.tell_clock.new.self.clients c.take_bytes.new.self.clients
    c.tell_clock.ensures.moved
    (behind_as facts old (keepings c.tell_clock.new.self.conns) c.args.who c.args.bytes.now c.tell_clock.new.self.clients
    c.take_bytes.new.self.clients (ap keepings c.tell_clock.ensures.conns) c.take_bytes.ensures.hears)
