-- Flags by number: none is set at first, and one more that is set is one more in the list.
use Rattle.std.proofs.Common.{◌≡◌, ◌≢◌, inl, inr, ℕ, ◌+◌, ◌<◌, ◌==◌, nat_lt, Bool, true, false, List, [], ◌∷◌, ◌++◌, length, take, get_or, set, replicate, Contains, IsTrue, sym, subst, ◌∙◌, arith}
use Rattle.std.specs.Prelude.{◌↔◌}
use Rattle.std.proofs.lemmas.Bool.{cases_Bool, both_ways, ltb-false, ltb-true}
use Rattle.std.proofs.lemmas.Bool.Decides.{Decides-eqb}
use Rattle.std.proofs.lemmas.List.{get_or_past, get_or-replicate, get_or-set_other, get_or-set_same, length-replicate, take_more}
use Rattle.std.proofs.lemmas.List.Elements.{Contains-append_left, Contains-append_right, Contains-push_cases}
use Rattle.warp_table.proofs.Members.{Contains-here, Contains-nil}

-- the numbers of the flags that are set are those of the list
abbrev pub AreSet : List Bool → List ℕ → Type 0
AreSet flags numbers = (number : ℕ) → IsTrue (get_or flags number false) ↔ Contains numbers number

unset : (n i : ℕ) → get_or (replicate n false) i false ≡ false
unset n i = elim (cases_Bool (nat_lt i n)) [
  | inl within ↦ get_or-replicate n i false false (ltb-true i n within)
  | inr past ↦ get_or_past (replicate n false) i false (let far = ltb-false i n past in omega (arith, far, length-replicate n false))
]

pub none_set : (n : ℕ) → AreSet (replicate n false) []
none_set n number = (λ h. absurd (both_ways (get_or (replicate n false) number false) (unset n number) h), λ has. absurd (Contains-nil number has))

pub one_set : (flags : List Bool) (numbers : List ℕ) (place : ℕ) → place < length flags → AreSet flags numbers → AreSet (set flags place true) (numbers ++ place ∷ [])
one_set flags numbers place within are number = elim (cases_Bool (number == place)) [
  | inl same ↦
      let is : number ≡ place = (Decides-eqb number place).0 same in (
        λ h. Contains-append_right numbers (place ∷ []) number (subst (λ (n : ℕ). Contains (place ∷ []) n) (sym is) (Contains-here place [])),
        λ has. subst (λ (n : ℕ). get_or (set flags place true) n false ≡ true) (sym is) (get_or-set_same flags place true false within),
      )
  | inr other ↦
      let unlike : number ≢ place = (λ e. both_ways (number == place) other ((Decides-eqb number place).1 e)) in
      let kept = get_or-set_other flags place number true false unlike in (
        λ h. Contains-append_left numbers (place ∷ []) number ((are number).0 (sym kept ∙ h)),
        λ has. kept ∙ (are number).1 (elim (Contains-push_cases numbers place number has) [
          | inl old ↦ old
          | inr e ↦ absurd (unlike (sym e))
        ]),
      )
]

pub one_more : (flags : List Bool) (numbers : List ℕ) (i d : ℕ) → i < length numbers → get_or numbers i d < length flags → AreSet flags (take i numbers) → AreSet (set flags (get_or numbers i d) true) (take (i + 1) numbers)
one_more flags numbers i d below within are =
    subst (λ (l : List ℕ). AreSet (set flags (get_or numbers i d) true) l) (sym (take_more numbers i d below))
    (one_set flags (take i numbers) (get_or numbers i d) within are)
