-- The numbers of places: each place of a program has one below the limit, and is the place with it.
use Rattle.std.proofs.Common.{◌≡◌, ℕ, ◌+◌, ◌-◌, ◌<◌, nat_lt, nat_eq, length, IsTrue, refl, ap, ◌∙◌, arith}
use Rattle.std.specs.Prelude.{slice_index_or}
use Rattle.std.proofs.lemmas.Bool.{cond-true, cond-false, ltb-true, lt-ltb, le-ltb, ne_eqb}
use Rattle.std.proofs.lemmas.List.FromFn.{get_or-map-range_with_len}
use Rattle.warp_body.specs.Presence.{target_fits}
use Rattle.warp_body.specs.declared.place.Target.{Target}
use Rattle.warp_body.specs.declared.place.Target.TheVariants as to
use Rattle.warp_step.specs.inner.Plan.{marks_of, marks_of_places, most_places, numbered_place, place_number, place_numbers}
use Rattle.warp_step.specs.Program.{Program}
use Rattle.warp_step.specs.Valid.{is_valid, program_places}
use Rattle.warp_step.proofs.ValidLemmas.{validity}

pub place_within : (P : Program) (place : Target) → IsTrue (is_valid P) → IsTrue (target_fits (program_places P) place) → place_number place < most_places
place_within P to.Startup valid fits = omega arith
place_within P (to.Timer n) valid fits =
    let few = (validity P valid).limits.timers in
    omega (arith, few, ltb-true n (length P.timers) fits)
place_within P (to.Action n) valid fits =
    let few = (validity P valid).limits.actions in
    omega (arith, few, ltb-true n (length P.actions) fits)
place_within P (to.Port n) valid fits =
    let few = (validity P valid).limits.ports in
    omega (arith, few, ltb-true n (length P.ports) fits)

-- a number that is a timer's, an action's or a port's
timer_with : (n : ℕ) → n < 64 → numbered_place (1 + n) ≡ to.Timer n
timer_with n lt =
    let same : 1 + n - 1 ≡ n = omega arith in
    cond-false (nat_eq (1 + n) 0) to.Startup _ (ne_eqb (1 + n) 0 (λ h. omega (arith, h)))
    ∙ cond-true (nat_lt (1 + n) 65) (to.Timer (1 + n - 1)) _ (lt-ltb (1 + n) 65 (omega arith))
    ∙ ap (λ (k : ℕ). to.Timer k) same

action_with : (n : ℕ) → n < 256 → numbered_place (65 + n) ≡ to.Action n
action_with n lt =
    let same : 65 + n - 65 ≡ n = omega arith in
    cond-false (nat_eq (65 + n) 0) to.Startup _ (ne_eqb (65 + n) 0 (λ h. omega (arith, h)))
    ∙ cond-false (nat_lt (65 + n) 65) (to.Timer (65 + n - 1)) _ (le-ltb (65 + n) 65 (omega arith))
    ∙ cond-true (nat_lt (65 + n) 321) (to.Action (65 + n - 65)) _ (lt-ltb (65 + n) 321 (omega arith))
    ∙ ap (λ (k : ℕ). to.Action k) same

port_with : (n : ℕ) → numbered_place (321 + n) ≡ to.Port n
port_with n =
    let same : 321 + n - 321 ≡ n = omega arith in
    cond-false (nat_eq (321 + n) 0) to.Startup _ (ne_eqb (321 + n) 0 (λ h. omega (arith, h)))
    ∙ cond-false (nat_lt (321 + n) 65) (to.Timer (321 + n - 1)) _ (le-ltb (321 + n) 65 (omega arith))
    ∙ cond-false (nat_lt (321 + n) 321) (to.Action (321 + n - 65)) _ (le-ltb (321 + n) 321 (omega arith))
    ∙ ap (λ (k : ℕ). to.Port k) same

pub place_with_own : (P : Program) (place : Target) → IsTrue (is_valid P) → IsTrue (target_fits (program_places P) place) → numbered_place (place_number place) ≡ place
place_with_own P to.Startup valid fits = refl
place_with_own P (to.Timer n) valid fits =
    let few = (validity P valid).limits.timers in
    timer_with n (omega (arith, few, ltb-true n (length P.timers) fits))
place_with_own P (to.Action n) valid fits =
    let few = (validity P valid).limits.actions in
    action_with n (omega (arith, few, ltb-true n (length P.actions) fits))
place_with_own P (to.Port n) valid fits = port_with n

-- a plan has the marks of those whom a place of the program concerns
pub concerned_fits : (P : Program) (place : Target) → IsTrue (is_valid P) → IsTrue (target_fits (program_places P) place)
    → slice_index_or (marks_of_places P) (place_number place) 0 ≡ marks_of P place
unfolding place_numbers
concerned_fits P place valid fits =
    get_or-map-range_with_len (λ (n : ℕ). marks_of P (numbered_place n)) 0 most_places (place_number place) (place_number place) 0 (place_within P place valid fits) (omega arith)
    ∙ ap (λ (p : Target). marks_of P p) (place_with_own P place valid fits)
