use Rattle.std.proofs.Common.{refl}
use Rattle.warp_replica.specs.Answered.{facts_of}
use Rattle.warp_machine.specs.Keeping.{keepings}
use Rattle.warp_machine.proofs.Keepings.{hears_rest, kept_none}
use Rattle.warp_machine.proofs.turning.hear_rest.Goals as goal

pub returns-in_default : goal.returns-in_default
returns-in_default g c = kept_none (facts_of g.T.Timeline.settled g.T.Timeline.refused g.T.Timeline.floor g.T.Timeline.SLACK) (keepings c.args.conns.now) c.args.who c.args.clients.now c.args.clients.now refl

pub returns : goal.returns
returns g c = hears_rest (facts_of g.T.Timeline.settled g.T.Timeline.refused g.T.Timeline.floor g.T.Timeline.SLACK) (keepings c.args.conns.now) c.args.who c.in-Some.rest.now c.args.clients.now c.hear.new.clients c.in-Some.ensures c.hear.result c.hear.ensures.heard c.hear.ensures.lost
