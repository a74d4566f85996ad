use Rattle.std.proofs.Common.{refl}
use Rattle.warp_clients.proofs.Moving.{listens}
use Rattle.warp_clients.proofs.crowd.Crowd.listen.Goals as goal

pub returns : goal.returns
returns c = rw (← c.self.view_is) (refl, listens (record { facts = c.self.inside.facts; failing = c.self.inside.is_failing; limit = c.self.inside.limit; clock = c.self.inside.clock }) c.args.who c.listen-listened.result c.self.inside.places c.listen-listened.new.self c.listen-listened.ensures)
