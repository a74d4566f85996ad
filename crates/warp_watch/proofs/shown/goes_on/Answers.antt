-- What was released stays while no origin broke an announcement; else the outputs are compared.
use Rattle.std.proofs.Common.{◌<◌, drop, length, refl, subst, sym}
use Rattle.std.proofs.lemmas.Slice.Eq.{starts_is}
use Rattle.warp_tag.specs.Lists.{StartsWith}
use Rattle.warp_step.proofs.ValidLemmas.{validity}
use Rattle.warp_watch.proofs.Shownness.{begun_once, same_out, still_begun}
use Rattle.warp_watch.proofs.shown.goes_on.Goals as goal

pub returns-then-is_honest-clause-exact : goal.returns-then-is_honest-clause-exact
returns-then-is_honest-clause-exact g c = λ before begun shown.
    let r = c.args.replica.now in
    let rel = c.requires.released in
    let origins = subst (λ P. 0 < P.origins) c.program.ensures (validity c.program.result.now c.valid.ensures).limits.origins_some in
    let some = c.one_answer.ensures.some r.program before origins (begun_once r.records before begun c.valid-2.ensures.once) in (
      λ yes. subst (λ l. StartsWith l c.args.rows.now) (sym rel.2)
          (still_begun r.program r.records before c.args.rows.now rel.0 (c.released_stays.ensures r.program) some c.valid-2.ensures.allowed
          (c.is_honest.ensures c.if-is_honest.true) begun shown rel.1),
      λ s. refl,
    )

pub returns-clause-exact : goal.returns-clause-exact
returns-clause-exact g c = λ before begun shown.
    let s = starts_is same_out c.args.released.now c.args.rows.now c.starts_with.result c.starts_with.ensures.value in
    (λ yes. (drop (length c.args.rows.now) c.args.released.now, s.0 yes), λ begins. s.1 begins.0 begins.1)
