use Rattle.std.proofs.Common.{refl}
use Rattle.warp_clients.proofs.Moving.{refuses}
use Rattle.warp_clients.proofs.crowd.Crowd.refuse.Goals as goal

pub returns : goal.returns
returns c = rw (← c.self.view_is) (refl, refuses (record { facts = c.self.inside.facts; failing = c.self.inside.is_failing; limit = c.self.inside.limit; clock = c.self.inside.clock }) c.args.who _ c.self.inside.places c.refuse.new.self c.refuse.ensures)
