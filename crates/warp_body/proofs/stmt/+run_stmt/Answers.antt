-- a turn of a loop
use Rattle.std.proofs.Common.{◌≡◌, ◌<◌, ◌∙◌, true, ap, IsTrue, rules, arith, subst, sym}
use Rattle.std.proofs.lemmas.Bool.{and_parts}
use Rattle.std.specs.List.{list_all}
use Rattle.warp_body.specs.Term.{sizes_of, term_fits, term_of}
use Rattle.warp_body.specs.Effect.{Effect, Statement, statement_of, statements_of, effect_of, schedules_of, statement_fits, body_fits, wish_fits, holds}
use Rattle.warp_body.specs.declared.place.Sizes.{Sizes}
use Rattle.warp_body.proofs.Bodies.{schedule_is}
use Rattle.warp_body.proofs.MachineLemmas.{fits_and_last}
use Rattle.warp_body.proofs.Turns.{turn_made, turn_counted}
use Rattle.warp_body.proofs.stmt.+run_stmt.Goals as goal

pub run_turns-run_body-requires : goal.run_turns-run_body-requires
run_turns-run_body-requires t c =
    let kept = c.turns.invariant in
    let some : 0 < c.turns.left = search rules in
    let count = turn_counted c.turns.left (schedules_of (statements_of c.args.body.now)) some in
    let now = kept.room in
    let all = c.requires.room in
    (search rules, (kept.fits, omega (count, now, all, arith)))

-- a wish that is put behind the others fits as its statement does
pub Stmt::run-returns-in-Schedule-clause-wishes : goal.Stmt::run-returns-in-Schedule-clause-wishes
Stmt::run-returns-in-Schedule-clause-wishes t c =
    let w = c.in-Schedule in
    let sizes = sizes_of c.args.vars.now c.args.present.now in
    let is = ap statement_of w.is ∙ schedule_is w.action w.delay w.expr in
    let fits = subst (λ (s : Statement). IsTrue (statement_fits sizes s)) is c.requires.fits in
    fits_and_last sizes c.args.wishes.now.items _ _ c.push.ensures.items (and_parts _ _ fits).0

pub run_turns-turns-preserved : goal.run_turns-turns-preserved
run_turns-turns-preserved t c =
    let kept = c.turns.invariant in
    let done = c.run_body.ensures in
    let test = term_of c.args.test.now in
    let body = statements_of c.args.body.now in
    let before : Effect = record { vars = c.turns.vars; present = c.turns.present; wishes = c.turns.wishes.items } in
    let after : Effect = record { vars = c.run_body.new.vars; present = c.run_body.new.present; wishes = c.run_body.new.wishes.items } in
    let some : 0 < c.turns.left = search rules in
    let met : holds test before ≡ true = search rules in
    let same : sizes_of after.vars after.present ≡ sizes_of before.vars before.present = λ i. record { vars = done.vars i; places = done.places i } in
    let start : sizes_of before.vars before.present ≡ sizes_of c.args.vars.now c.args.present.now
    = λ i. record { vars = kept.vars i; places = kept.places i } in
    record {
      rest = turn_made c.turns.left (holds test) (effect_of body) before after some met done.effect ∙ kept.rest;
      vars = done.vars ∙ kept.vars;
      places = done.places ∙ kept.places;
      sources = done.sources ∙ kept.sources;
      test = subst (λ (s : Sizes). IsTrue (term_fits s test)) (sym same) kept.test;
      fits = subst (λ (s : Sizes). IsTrue (body_fits s body)) (sym same) kept.fits;
      room =
          let count = turn_counted c.turns.left (schedules_of body) some in
          let more = done.room in
          let now = kept.room in
          omega (count, more, now, arith);
      wishes = λ all.
          subst (λ (s : Sizes). IsTrue (list_all (wish_fits s) before.wishes) → IsTrue (list_all (wish_fits s) after.wishes)) start done.wishes
          (kept.wishes all);
    }
