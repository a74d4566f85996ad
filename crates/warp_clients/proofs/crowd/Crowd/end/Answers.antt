use Rattle.std.proofs.Common.{refl}
use Rattle.warp_clients.proofs.Moving.{closes}
use Rattle.warp_clients.proofs.crowd.Crowd.end.Goals as goal

pub returns : goal.returns
returns c = rw (← c.self.view_is) (refl, closes (record { facts = c.self.inside.facts; failing = c.self.inside.is_failing; limit = c.self.inside.limit; clock = c.self.inside.clock }) c.args.who c.self.inside.places c.end.new.self c.end.ensures)
