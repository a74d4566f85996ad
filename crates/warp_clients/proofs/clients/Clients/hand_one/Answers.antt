use Rattle.warp_replica.specs.Answered.{facts_of}
use Rattle.warp_clients.proofs.Stepping.{hand_run}
use Rattle.warp_clients.proofs.clients.Clients.hand_one.Goals as goal

pub returns : goal.returns
returns g c = rw (← c.self.view_is) (hand_run (facts_of g.T.Timeline.settled g.T.Timeline.refused g.T.Timeline.floor g.T.Timeline.SLACK) (record { room = c.self.inside.room; crowd = c.self.inside.crowd }) (record { room = c.hand.new.self; crowd = c.reply-is_told.new.self }) c.in_ok-one.one c.limit.result c.limit.ensures c.in_ok-one.ensures.some c.reply-is_told.result c.reply-is_told.ensures.yes c.reply-is_told.ensures.no c.reply-is_told.ensures.common)
