use Rattle.std.proofs.Common.{IsTrue, subst}
use Rattle.std.specs.Prelude.{◌↔◌}
use Rattle.warp_table.specs.inner.Heard.{Heard, IsExceeded}
use Rattle.warp_table.proofs.Tallies.{broken_heard}
use Rattle.warp_table.proofs.announcer.Announcer.is_broken.Goals as goal

pub returns : goal.returns
returns c =
    let is = c.self.inside in
    subst (λ (h : Heard). IsTrue is.verdict.is_broken ↔ IsExceeded h) c.self.view_is
    (broken_heard is.events is.withdrawn is.doubled is.announced is.verdict c.self.invariant)
