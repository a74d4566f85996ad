use Rattle.std.proofs.Common.{ℕ, List, subst, sym}
use Rattle.warp_machine.specs.Keeping.{AreKept, keepings}
use Rattle.warp_machine.proofs.Keepings.{own_kept}
use Rattle.warp_machine.proofs.conns.Conns.rest.Goals as goal

pub returns : goal.returns
returns c = subst (λ (bytes : List ℕ). AreKept (keepings c.args.self.now) c.args.who bytes) (sym c.deref.ensures.value) (own_kept c.args.self.now.all.items c.args.who c.in_ok-conn.conn.now c.in_ok-conn.ensures.there.0 c.in_ok-conn.ensures.there.1)
