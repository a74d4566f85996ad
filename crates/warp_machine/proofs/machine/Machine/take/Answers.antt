use Rattle.warp_replica.specs.Answered.{facts_of}
use Rattle.warp_machine.specs.Keeping.{keepings}
use Rattle.warp_machine.proofs.Keepings.{all_rest, behind_then, keeps_from, takes_then}
use Rattle.warp_machine.proofs.machine.Machine.take.Goals as goal

pub returns : goal.returns
returns g c = behind_then (facts_of g.T.Timeline.settled g.T.Timeline.refused g.T.Timeline.floor g.T.Timeline.SLACK) (keepings c.args.self.now.conns) c.args.who c.args.bytes.now c.args.self.now.clients c.hear_one.new.self.clients c.unwant_hear.new.self.clients (takes_then (facts_of g.T.Timeline.settled g.T.Timeline.refused g.T.Timeline.floor g.T.Timeline.SLACK) (keepings c.args.self.now.conns) (keepings c.keep.new.self) c.args.who c.args.bytes.now _ c.hear-heard.result c.args.self.now.clients c.hear-heard.new.self.clients c.hear_one.new.self.clients c.hear-heard.ensures.takes (all_rest c.args.bytes.now c.hear-heard.result) (keeps_from _ c.args.who c.args.self.now.conns c.hear-heard.new.self.conns (keepings c.keep.new.self) c.hear-heard.ensures.conns c.keep.ensures) c.hear_one.ensures) c.unwant_hear.ensures
