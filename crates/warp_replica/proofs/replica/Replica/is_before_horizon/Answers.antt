use Rattle.std.proofs.Common.{◌≡◌, ◌<◌, ◌∙◌, false, arith, subst, sym}
use Rattle.std.proofs.lemmas.Bool.Decides.{nat_tests}
use Rattle.warp_tag.specs.Moment.{Moment, is_before}
use Rattle.warp_table.specs.Announced.{IsHorizon}
use Rattle.warp_table.specs.Records.{set_of}
use Rattle.warp_replica.proofs.SomeHorizon.{announced_to, past_reached}
use Rattle.warp_replica.proofs.replica.Replica.is_before_horizon.Goals as goal

pub returns-then-not-is_before : goal.returns-then-not-is_before
returns-then-not-is_before g c =
    let r = c.self.inside in
    let origin = c.in-Some.origin in
    let told = announced_to r.program r.table c.valid.ensures in
    let below : origin < c.origins.result = grind (c.if-origin-origins.true, nat_tests, arith) in
    let past : is_before c.args.tag c.reached.result ≡ false = sym c.is_before.ensures ∙ c.if-not-is_before.true in
    subst (λ s. (horizon : Moment) × IsHorizon s.program (set_of s.records) horizon × (false ≡ is_before c.args.tag horizon)) c.self.view_is (
      told.horizon,
      told.reached,
      sym (past_reached r.program (set_of r.table) origin c.reached.result c.args.tag told.horizon (omega (arith, below, c.origins.ensures))
          c.reached.ensures past told.reached),
    )
