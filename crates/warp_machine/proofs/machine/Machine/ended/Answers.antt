use Rattle.std.proofs.Common.{refl}
use Rattle.warp_replica.specs.Answered.{facts_of}
use Rattle.warp_machine.specs.Keeping.{keepings}
use Rattle.warp_machine.proofs.Keepings.{kept_as, kept_none}
use Rattle.warp_machine.proofs.machine.Machine.ended.Goals as goal

pub returns-then-note_end : goal.returns-then-note_end
returns-then-note_end g c = kept_as (facts_of g.T.Timeline.settled g.T.Timeline.refused g.T.Timeline.floor g.T.Timeline.SLACK) (keepings c.args.self.now.conns) (keepings c.note_end.new.self) c.args.who c.args.self.now.clients c.say.new.self.clients c.note_end.ensures c.say.ensures

pub returns-else-note_end : goal.returns-else-note_end
returns-else-note_end g c = kept_none (facts_of g.T.Timeline.settled g.T.Timeline.refused g.T.Timeline.floor g.T.Timeline.SLACK) (keepings c.args.self.now.conns) c.args.who c.args.self.now.clients c.args.self.now.clients refl
