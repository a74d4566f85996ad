use Rattle.std.proofs.Common.{refl}
use Rattle.warp_replica.specs.Answered.{facts_of}
use Rattle.warp_machine.specs.Keeping.{keepings}
use Rattle.warp_machine.proofs.Keepings.{behind_as, behind_none}
use Rattle.warp_machine.proofs.machine.Machine.take_bytes.Goals as goal

pub returns-then-not-note_bytes-clause-hears : goal.returns-then-not-note_bytes-clause-hears
returns-then-not-note_bytes-clause-hears g c = behind_none (facts_of g.T.Timeline.settled g.T.Timeline.refused g.T.Timeline.floor g.T.Timeline.SLACK) (keepings c.args.self.now.conns) c.args.who c.args.bytes.now c.args.self.now.clients c.args.self.now.clients refl

pub returns-clause-hears : goal.returns-clause-hears
returns-clause-hears g c = behind_as (facts_of g.T.Timeline.settled g.T.Timeline.refused g.T.Timeline.floor g.T.Timeline.SLACK) (keepings c.args.self.now.conns) (keepings c.note_bytes.new.self) c.args.who c.args.bytes.now c.args.self.now.clients c.take.new.self.clients c.note_bytes.ensures c.take.ensures
