use Rattle.std.proofs.Common.{refl}
use Rattle.warp_clients.proofs.Moving.{grants, loses}
use Rattle.warp_clients.proofs.crowd.Crowd.grant.Goals as goal

pub returns-then-not-spell_rights : goal.returns-then-not-spell_rights
returns-then-not-spell_rights c = rw (← c.self.view_is) (refl, loses (record { facts = c.self.inside.facts; failing = c.self.inside.is_failing; limit = c.self.inside.limit; clock = c.self.inside.clock }) c.args.who c.self.inside.places c.lose.new.self c.lose.ensures)

pub returns : goal.returns
returns c = rw (← c.self.view_is) (refl, grants (record { facts = c.self.inside.facts; failing = c.self.inside.is_failing; limit = c.self.inside.limit; clock = c.self.inside.clock }) c.args.who c.args.rights.now _ c.self.inside.places c.grant.new.self c.grant.ensures)
