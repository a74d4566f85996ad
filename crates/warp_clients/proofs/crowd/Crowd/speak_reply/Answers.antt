use Rattle.std.proofs.Common.{refl, arith}
use Rattle.warp_clients.proofs.Moving.{speaks, loses}
use Rattle.warp_clients.proofs.crowd.Crowd.speak_reply.Goals as goal

pub returns-then-not-spell_reply : goal.returns-then-not-spell_reply
returns-then-not-spell_reply c = rw (← c.self.view_is) (refl, loses (record { facts = c.self.inside.facts; failing = c.self.inside.is_failing; limit = c.self.inside.limit; clock = c.self.inside.clock }) c.args.who c.self.inside.places c.lose.new.self c.lose.ensures)

pub returns : goal.returns
returns c = rw (← c.self.view_is) (refl, speaks (record { facts = c.self.inside.facts; failing = c.self.inside.is_failing; limit = c.self.inside.limit; clock = c.self.inside.clock }) c.args.who c.args.said.now 0 _ c.self.inside.places c.speak.new.self (omega arith) c.speak.ensures)
