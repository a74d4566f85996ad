-- Which reaction need not be tested: the first one that heeds a place is triggered where the place was just made present.
use Rattle.std.proofs.Common.{◌≡◌, inl, inr, ℕ, ℤ, zero, suc, ◌+◌, ◌≤◌, true, false, List, [], ◌∷◌, length, Option, None, Some, is_some, IsTrue, refl, sym, ap, ◌∙◌, subst, arith}
use Rattle.std.specs.Prelude.{slice_get, slice_index_or}
use Rattle.std.specs.List.{list_any}
use Rattle.std.proofs.lemmas.Bool.{cases_Bool, cond-true, cond-false, ltb-true, or_cases, or_left, or_right}
use Rattle.std.proofs.lemmas.List.{get_or-set_same}
use Rattle.std.proofs.lemmas.List.FromFn.{get_or-map-range_with_len}
use Rattle.std.proofs.lemmas.Option.{slice_get_past}
use Rattle.warp_tag.specs.Limits.{most_reactions, widest}
use Rattle.warp_body.specs.Presence.{Presence, is_target, places_of, present_at, target_fits, with_value}
use Rattle.warp_body.specs.declared.place.Target.{Target}
use Rattle.warp_body.specs.declared.place.Target.TheVariants as to
use Rattle.warp_step.specs.inner.Plan.{first_heeding, heeds, in_turn, most_places, numbered_place, place_number, place_numbers, place_of, plan_of}
use Rattle.warp_step.specs.Program.{Program, Rule}
use Rattle.warp_step.specs.Step.{sources_of}
use Rattle.warp_step.specs.Valid.{is_valid, program_places}
use Rattle.warp_step.specs.inner.TriggeredTurn.{IsTriggeredTurn}
use Rattle.warp_step.proofs.PlaceLemmas.{place_with_own, place_within}
use Rattle.warp_step.proofs.TurnLemmas.{few_turns}
use Rattle.warp_step.proofs.ValidLemmas.{same_target}

-- a plan has the first reaction that heeds a place of the program
pub first_fits : (P : Program) (place : Target) → IsTrue (is_valid P) → IsTrue (target_fits (program_places P) place)
    → slice_index_or (plan_of P).firsts (place_number place) 0 ≡ first_heeding (sources_of P) place 0 (in_turn P)
unfolding place_numbers
first_fits P place valid fits =
    get_or-map-range_with_len (λ (n : ℕ). first_heeding (sources_of P) (numbered_place n) 0 (in_turn P)) 0 most_places (place_number place) (place_number place) 0 (place_within P place valid fits) (omega arith)
    ∙ ap (λ (p : Target). first_heeding (sources_of P) p 0 (in_turn P)) (place_with_own P place valid fits)

-- the first reaction that heeds a place does, where there is one
module _ (sources : List ℕ) (place : Target) where
  first_from : (n : ℕ) (rules : List Rule) → n ≤ first_heeding sources place n rules
  first_from n [] = omega arith
  first_from n (rule ∷ rules) =
      let later = first_from (n + 1) rules in
      elim (cases_Bool (heeds sources rule.triggers place)) [
        | inl h ↦ let here = cond-true (heeds sources rule.triggers place) n (first_heeding sources place (n + 1) rules) h in omega (arith, here)
        | inr h ↦ let there = cond-false (heeds sources rule.triggers place) n (first_heeding sources place (n + 1) rules) h in omega (arith, there, later)
      ]

  first_heeds : (n : ℕ) (rules : List Rule) (k : ℕ) (rule : Rule) → first_heeding sources place n rules ≡ n + k → slice_get rules k ≡ Some rule
      → heeds sources rule.triggers place ≡ true
  first_heeds n [] k rule first at = let no : None ≡ Some rule = at in cc
  first_heeds n (r ∷ rules) zero rule first at =
      let some : Some r ≡ Some rule = at in
      let same : r ≡ rule = cc in
      let later = first_from (n + 1) rules in
      elim (cases_Bool (heeds sources r.triggers place)) [
        | inl h ↦ ap (λ (x : Rule). heeds sources x.triggers place) (sym same) ∙ h
        | inr h ↦
            let there = cond-false (heeds sources r.triggers place) n (first_heeding sources place (n + 1) rules) h in
            absurd (omega (arith, there, later, first))
      ]
  first_heeds n (r ∷ rules) (suc k) rule first at =
      elim (cases_Bool (heeds sources r.triggers place)) [
        | inl h ↦
            let here = cond-true (heeds sources r.triggers place) n (first_heeding sources place (n + 1) rules) h in
            absurd (omega (arith, here, first))
        | inr h ↦
            let there = cond-false (heeds sources r.triggers place) n (first_heeding sources place (n + 1) rules) h in
            first_heeds (n + 1) rules k rule (omega (arith, there, first)) at
      ]

-- a trigger is present where its place was made so
own_present : (v : ℤ) (present : Presence) (trigger : Target) → IsTrue (target_fits (places_of present) (place_of present.sources trigger))
    → is_some (present_at (with_value (place_of present.sources trigger) v present) trigger) ≡ true
own_present v present to.Startup fits = refl
own_present v present (to.Timer n) fits =
    ap (λ (o : Option ℤ). is_some o) (get_or-set_same present.timers n (Some v) None (ltb-true n (length present.timers) fits))
own_present v present (to.Action n) fits =
    ap (λ (o : Option ℤ). is_some o) (get_or-set_same present.actions n (Some v) None (ltb-true n (length present.actions) fits))
own_present v present (to.Port n) fits =
    let source = slice_index_or present.sources n n in
    ap (λ (o : Option ℤ). is_some o) (get_or-set_same present.ports source (Some v) None (ltb-true source (length present.ports) fits))

-- and so is one of the triggers that heed it
heeding_present : (target : Target) (v : ℤ) (present : Presence) (triggers : List Target) → IsTrue (target_fits (places_of present) target)
    → heeds present.sources triggers target ≡ true → list_any (λ trigger. is_some (present_at (with_value target v present) trigger)) triggers ≡ true
heeding_present target v present [] fits h = let no : false ≡ true = h in cc
heeding_present target v present (t ∷ ts) fits h =
    let here = is_some (present_at (with_value target v present) t) in
    let there = list_any (λ trigger. is_some (present_at (with_value target v present) trigger)) ts in
    elim (or_cases (is_target target (place_of present.sources t)) (heeds present.sources ts target) h) [
      | inl own ↦
          let same = same_target target (place_of present.sources t) own in
          or_left here there
          (subst (λ (place : Target). is_some (present_at (with_value place v present) t) ≡ true) (sym same)
          (own_present v present t (subst (λ (place : Target). IsTrue (target_fits (places_of present) place)) same fits)))
      | inr other ↦ or_right here there (heeding_present target v present ts fits other)
    ]

-- After a value, the first reaction that heeds its place is triggered.
pub sure_after : (P : Program) (target : Target) (v : ℤ) (before after : Presence) (triggered_turn : ℕ) → before.sources ≡ sources_of P
    → IsTrue (target_fits (places_of before) target) → after ≡ with_value target v before → triggered_turn ≡ first_heeding (sources_of P) target 0 (in_turn P) → IsTriggeredTurn P after triggered_turn
sure_after P target v before after triggered_turn own fits arrives is = λ rule at.
    let first : first_heeding (sources_of P) target 0 (in_turn P) ≡ 0 + triggered_turn = omega (arith, is) in
    let heeded = first_heeds (sources_of P) target 0 (in_turn P) triggered_turn rule first at in
    let here = heeding_present target v before rule.triggers fits (ap (λ (ss : List ℕ). heeds ss rule.triggers target) own ∙ heeded) in
    ap (λ (p : Presence). list_any (λ trigger. is_some (present_at p trigger)) rule.triggers) arrives ∙ here

-- A turn that no reaction has is sure in vain.
pub none_sure : (P : Program) (present : Presence) (triggered_turn : ℕ) → IsTrue (is_valid P) → most_reactions widest ≤ triggered_turn → IsTriggeredTurn P present triggered_turn
none_sure P present triggered_turn valid beyond = λ rule at.
    let few = few_turns P valid in
    let none = slice_get_past (in_turn P) triggered_turn (omega (arith, few, beyond)) in
    let no : None ≡ Some rule = sym none ∙ at in
    cc
