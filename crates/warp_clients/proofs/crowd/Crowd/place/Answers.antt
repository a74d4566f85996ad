use Rattle.std.proofs.Common.{◌≡◌, ◌≤◌, ◌<◌, false, Some, length, refl, sym, subst}
use Rattle.std.specs.Prelude.{slice_get}
use Rattle.warp_clients.specs.Client.{ClientState}
use Rattle.warp_clients.specs.Crowd.{CrowdState}
use Rattle.warp_clients.proofs.Stepping.{gets_place}
use Rattle.warp_clients.proofs.crowd.Crowd.place.Goals as goal

pub returns-clause-placed : goal.returns-clause-placed
returns-clause-placed c = rw (← c.self.view_is) (λ yes. (gets_place (record { facts = c.self.inside.facts; failing = c.self.inside.is_failing; limit = c.self.inside.limit; clock = c.self.inside.clock }) c.args.who c.self.inside.places c.put.new.self c.new-client.result c.args.who.key refl (subst (λ (x : CrowdState). c.args.who.key ≤ length x.clients) (sym c.self.view_is) (c.if-not-may_place.ensures.most refl)) (subst (λ (x : CrowdState). c.args.who.key < length x.clients → (left : ClientState) × (slice_get x.clients c.args.who.key ≡ Some left) × (left.here ≡ false)) (sym c.self.view_is) (c.if-not-may_place.ensures.free refl)) (c.new-client.ensures (record { facts = c.self.inside.facts; failing = c.self.inside.is_failing; limit = c.self.inside.limit; clock = c.self.inside.clock }) refl) (c.if-not-put.ensures.next refl) (c.if-not-put.ensures.free refl), refl))
