use Rattle.std.proofs.Common.{subst}
use Rattle.warp_table.specs.inner.Heard.{Heard, IsHeardTo}
use Rattle.warp_table.proofs.Tallies.{heard_to}
use Rattle.warp_table.proofs.announcer.Announcer.reached.Goals as goal

pub returns : goal.returns
returns c =
    let is = c.self.inside in
    subst (λ (h : Heard). IsHeardTo h is.verdict.reached) c.self.view_is
    (heard_to is.events is.withdrawn is.doubled is.announced is.verdict c.self.invariant)
