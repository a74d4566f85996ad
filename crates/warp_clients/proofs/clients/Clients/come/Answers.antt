use Rattle.std.proofs.Common.{refl, inr, ◌∙◌}
use Rattle.warp_replica.specs.Answered.{facts_of}
use Rattle.warp_clients.proofs.Stepping.{turned}
use Rattle.warp_clients.proofs.clients.Clients.come.Goals as goal

pub returns-then-not-place-clause-err : goal.returns-then-not-place-clause-err
returns-then-not-place-clause-err g c = rw (← c.self.view_is) (inr (c.in-Ok.who, turned (facts_of g.T.Timeline.settled g.T.Timeline.refused g.T.Timeline.floor g.T.Timeline.SLACK) (record { room = c.self.inside.room; crowd = c.self.inside.crowd }) (record { room = c.leave.new.self; crowd = c.place.new.self }) c.come.new.self c.in-Ok.who c.leave.result c.in-Ok.ensures.ok c.in-Ok.ensures.others c.leave.ensures.left c.leave.ensures.gone (c.if-not-place.ensures.none refl ∙ c.reserve.ensures)))
