use Rattle.std.proofs.Common.{refl}
use Rattle.warp_clients.proofs.Moving.{closes}
use Rattle.warp_clients.proofs.crowd.Crowd.close.Goals as goal

pub returns : goal.returns
returns c = rw (← c.self.view_is) (refl, closes (record { facts = c.self.inside.facts; failing = c.self.inside.is_failing; limit = c.self.inside.limit; clock = c.self.inside.clock }) c.args.who c.self.inside.places c.close.new.self c.close.ensures)
