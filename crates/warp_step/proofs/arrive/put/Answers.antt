-- whom the target concerns is marked, and the first reaction that it triggers is sure
use Rattle.std.proofs.Common.{◌≡◌, [], ◌∷◌, ℕ, ℤ, bit_or, length, IsTrue, sym, ap, ◌∙◌, subst, arith}
use Rattle.std.specs.Prelude.{slice_index_or}
use Rattle.std.proofs.lemmas.List.FromFn.{length-map-range_with_len}
use Rattle.warp_body.specs.Presence.{Presence, target_fits, with_value}
use Rattle.warp_body.specs.declared.place.Places.{Places}
use Rattle.warp_body.specs.declared.place.Target.{Target}
use Rattle.warp_step.specs.Program.{Program}
use Rattle.warp_step.specs.inner.Plan.{Plan, marks_of, most_places, numbered_place, place_number, place_numbers}
use Rattle.warp_step.specs.Step.{sources_of}
use Rattle.warp_step.specs.Valid.{program_places}
use Rattle.warp_step.specs.inner.Due.{AreDue}
use Rattle.warp_step.proofs.DueLemmas.{Marks, due_after, follows_value, marks_all}
use Rattle.warp_step.proofs.PlaceLemmas.{concerned_fits, place_within}
use Rattle.warp_step.proofs.TriggeredTurnLemmas.{first_fits, sure_after}
use Rattle.warp_step.proofs.arrive.put.Goals as goal

pub concerned-concerned-requires : goal.concerned-concerned-requires
unfolding place_numbers
concerned-concerned-requires c =
    let P = c.args.program.now in
    let target = c.args.target in
    let fits : IsTrue (target_fits (program_places P) target) =
    subst (λ (places : Places). IsTrue (target_fits places target)) c.requires.places c.requires.target in
    let len : length c.args.plan.now.places ≡ 1345 =
    ap (λ (plan : Plan). length plan.places) c.requires.plan ∙ length-map-range_with_len (λ n. marks_of P (numbered_place n)) 0 most_places in
    omega (arith, len, place_within P target c.valid.ensures fits)

put_due : (P : Program) (target : Target) (v : ℤ) (before after : Presence) (old called new : ℕ) → before.sources ≡ sources_of P
    → after ≡ with_value target v before → called ≡ marks_of P target → new ≡ bit_or old called → AreDue P before old → AreDue P after new
put_due P target v before after old called new own arrives called_is joined were =
    subst (λ (p : Presence). AreDue P p new) (sym arrives)
    (due_after P (target ∷ []) before (with_value target v before) old called new own (follows_value target v before)
    (subst (λ (word : ℕ). Marks P (target ∷ []) word) (sym called_is) (marks_all P target)) joined were)

pub returns-clause-due : goal.returns-clause-due
returns-clause-due c = λ were.
    let P = c.args.program.now in
    let target = c.args.target in
    let fits : IsTrue (target_fits (program_places P) target) =
    subst (λ (places : Places). IsTrue (target_fits places target)) c.requires.places c.requires.target in
    let called = c.concerned-concerned.ensures.marks ∙ ap (λ (plan : Plan). slice_index_or plan.places (place_number target) 0) c.requires.plan ∙ concerned_fits P target c.valid.ensures fits in
    put_due P target _ c.args.present.now c.put.new.self c.args.due.now.word c.concerned-concerned.result.marks.word c.add_all.new.self.word
    c.requires.own c.put.ensures.value called c.add_all.ensures were

pub returns-clause-triggered_turn : goal.returns-clause-triggered_turn
returns-clause-triggered_turn c =
    let P = c.args.program.now in
    let target = c.args.target in
    let fits : IsTrue (target_fits (program_places P) target) =
    subst (λ (places : Places). IsTrue (target_fits places target)) c.requires.places c.requires.target in
    let first = c.concerned-concerned.ensures.first ∙ ap (λ (plan : Plan). slice_index_or plan.firsts (place_number target) 0) c.requires.plan ∙ first_fits P target c.valid.ensures fits in
    sure_after P target _ c.args.present.now c.put.new.self c.concerned-concerned.result.first c.requires.own c.requires.target c.put.ensures.value first
