use Rattle.std.proofs.Common.{refl}
use Rattle.warp_clients.proofs.Moving.{rests}
use Rattle.warp_clients.proofs.crowd.Crowd.answer.Goals as goal

pub returns : goal.returns
returns g c = rw (← c.self.view_is) (refl, rests (record { facts = c.self.inside.facts; failing = c.self.inside.is_failing; limit = c.self.inside.limit; clock = c.self.inside.clock }) c.args.who c.self.inside.places c.answer.new.self c.answer.ensures)
