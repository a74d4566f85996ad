use Rattle.std.proofs.Common.{refl}
use Rattle.warp_clients.proofs.Moving.{upgrades}
use Rattle.warp_clients.proofs.crowd.Crowd.upgrade.Goals as goal

pub returns : goal.returns
returns c = rw (← c.self.view_is) (refl, upgrades (record { facts = c.self.inside.facts; failing = c.self.inside.is_failing; limit = c.self.inside.limit; clock = c.self.inside.clock }) c.args.who c.or_first-rights.result c.self.inside.places c.upgrade.new.self c.upgrade.ensures)
