-- The next tag of a replay: nothing stands before it, and an entry or something pending stands at it.
use Rattle.std.proofs.Common.{◌≡◌, inl, inr, ℕ, zero, suc, ◌<◌, List, ◌∷◌, [], drop, ap, sym, subst, ◌∙◌, refl, arith, IsTrue, Bool, true, false, not, ◌||◌, Option, Some, None}
use Rattle.std.specs.Option.{option_map_or}
use Rattle.std.specs.List.{list_all, list_any, AllByRecursion}
use Rattle.std.proofs.lemmas.Bool.{cases_Bool}
use Rattle.std.proofs.lemmas.Bool.Decides.{nat_tests}
use Rattle.warp_tag.specs.Moment.{Moment, is_before, is_same}
use Rattle.warp_tag.specs.Table.{IsTable, name_before}
use Rattle.warp_tag.specs.declared.entry.Entry.{Entry}
use Rattle.warp_tag.proofs.Tags.{is_same_self, not_before_self, same_is}
use Rattle.warp_step.specs.Program.{Program}
use Rattle.warp_step.specs.Snapshot.{earlier, entry_fits, least_pending}
use Rattle.warp_step.specs.Events.{is_in_time}
use Rattle.warp_step.specs.declared.pending.Waiting.{Waiting}
use Rattle.warp_line.specs.inner.Replay.{next_of, HasOtherHead, none_before}

-- of a tag and one that may be missing, neither stands before the earlier
earlier_first : (a : Moment) (o : Option Moment) → is_before a (earlier a o) ≡ false
earlier_first a None = not_before_self a
earlier_first a (Some b) = elim (cases_Bool (is_before b a)) [
  | inl less ↦ rw less (grind (arith, nat_tests))
  | inr more ↦ rw more (not_before_self a)
]

earlier_second : (a b : Moment) → is_before b (earlier a (Some b)) ≡ false
earlier_second a b = elim (cases_Bool (is_before b a)) [
  | inl less ↦ rw less (not_before_self b)
  | inr more ↦ rw more more
]

-- what is not before a tag is not before an earlier one
not_earlier : (u a t : Moment) → is_before a u ≡ false → is_before u t ≡ false → is_before a t ≡ false
not_earlier u a t h k = grind (arith, nat_tests)

-- nothing is pending where there is no least tag
pub none_pending : (ws : List Waiting) → least_pending ws ≡ None → ws ≡ []
none_pending [] h = refl
none_pending (w ∷ ws) h = cc

-- the tag, if there is one, is not before t
abbrev from : Moment → Option Moment → Bool
from t o = option_map_or (λ u. not (is_before u t)) o true

from_second : (a t : Moment) (o : Option Moment) → is_before (earlier a o) t ≡ false → from t o ≡ true
from_second a t None h = refl
from_second a t (Some b) h = let x = not_earlier (earlier a (Some b)) b t (earlier_second a b) h in grind (arith, nat_tests)

-- nothing is pending before a tag that the least tag is not before
none_before_least : (t : Moment) (ws : List Waiting) → from t (least_pending ws) ≡ true → IsTrue (none_before t ws)
none_before_least t [] h = refl
none_before_least t (w ∷ ws) h =
    let least : is_before (earlier w.tag (least_pending ws)) t ≡ false = grind (arith, nat_tests) in
    let first : is_before w.tag t ≡ false = not_earlier (earlier w.tag (least_pending ws)) w.tag t (earlier_first w.tag (least_pending ws)) least in
    let rest : IsTrue (none_before t ws) = none_before_least t ws (from_second w.tag t (least_pending ws) least) in
    grind (arith, nat_tests)

-- the tag that may be missing is this one
abbrev pub is_at : Moment → Option Moment → Bool
is_at t o = option_map_or (λ u. is_same u t) o false

-- the earlier of a tag and one that may be missing, neither before t, is t where one of them is
one_of_two : (t a : Moment) (o : Option Moment) → is_before a t ≡ false → from t o ≡ true → is_same (earlier a o) t ≡ (is_same a t || is_at t o)
one_of_two t a None h k = grind (arith, nat_tests)
one_of_two t a (Some u) h k = elim (cases_Bool (is_before u a)) [
  | inl less ↦ rw less (grind (arith, nat_tests))
  | inr more ↦ rw more (grind (arith, nat_tests))
]

from_earlier : (t a : Moment) (o : Option Moment) → is_before a t ≡ false → from t o ≡ true → is_before (earlier a o) t ≡ false
from_earlier t a None h k = h
from_earlier t a (Some u) h k = elim (cases_Bool (is_before u a)) [
  | inl less ↦ rw less (grind (arith, nat_tests))
  | inr more ↦ rw more h
]

least_from : (t : Moment) (ws : List Waiting) → IsTrue (none_before t ws) → from t (least_pending ws) ≡ true
least_from t [] h = refl
least_from t (w ∷ ws) h =
    let front : is_before w.tag t ≡ false = grind (arith, nat_tests) in
    let rest : IsTrue (none_before t ws) = grind (arith, nat_tests) in
    ap not (from_earlier t w.tag (least_pending ws) front (least_from t ws rest))

-- an entry is pending at a tag, before which none is, exactly where the least tag is that one
pub least_any : (t : Moment) (ws : List Waiting) → IsTrue (none_before t ws) → is_at t (least_pending ws) ≡ list_any (λ w. is_same w.tag t) ws
least_any t [] h = refl
least_any t (w ∷ ws) h =
    let front : is_before w.tag t ≡ false = grind (arith, nat_tests) in
    let rest : IsTrue (none_before t ws) = grind (arith, nat_tests) in
    one_of_two t w.tag (least_pending ws) front (least_from t ws rest) ∙ ap (λ b. is_same w.tag t || b) (least_any t ws rest)

-- what is pending neither before a tag nor at it is later
pub all_later : (t : Moment) (ws : List Waiting) → IsTrue (none_before t ws) → list_any (λ w. is_same w.tag t) ws ≡ false → IsTrue (list_all (λ w. is_before t w.tag) ws)
all_later t [] h k = refl
all_later t (w ∷ ws) h k =
    let rest : IsTrue (none_before t ws) = grind (arith, nat_tests) in
    let none : list_any (λ v. is_same v.tag t) ws ≡ false = grind (arith, nat_tests) in
    let later : IsTrue (list_all (λ v. is_before t v.tag) ws) = all_later t ws rest none in
    grind (arith, nat_tests)

-- an entry that is pending at a tag shows that the program executes it
pub pending_in_time : (P : Program) (t : Moment) (ws : List Waiting) → IsTrue (list_all (entry_fits P) ws) → list_any (λ w. is_same w.tag t) ws ≡ true → IsTrue (is_in_time P t)
pending_in_time P t [] h k = let never : false ≡ true = k in cc
pending_in_time P t (w ∷ ws) h k = elim (cases_Bool (is_same w.tag t)) [
  | inl same ↦
      let here : IsTrue (is_in_time P w.tag) = grind (arith, nat_tests) in
      subst (λ (u : Moment). IsTrue (is_in_time P u)) (same_is w.tag t same) here
  | inr other ↦
      let rest : IsTrue (list_all (entry_fits P) ws) = grind (arith, nat_tests) in
      let there : list_any (λ v. is_same v.tag t) ws ≡ true = grind (arith, nat_tests) in
      pending_in_time P t ws rest there
]

-- nothing is left where there is no next tag
pub none_next : (rest : List Entry) (ws : List Waiting) → next_of rest (least_pending ws) ≡ None → (rest ≡ []) × (ws ≡ [])
none_next [] ws h = (refl, none_pending ws h)
none_next (e ∷ es) ws h = cc

from_next : (t a : Moment) (o : Option Moment) → earlier a o ≡ t → from t o ≡ true
from_next t a None h = refl
from_next t a (Some u) h = ap not (subst (λ (v : Moment). is_before u v ≡ false) h (earlier_second a u))

-- nothing is pending before the next tag
pub next_pending : (rest : List Entry) (ws : List Waiting) (t : Moment) → next_of rest (least_pending ws) ≡ Some t → IsTrue (none_before t ws)
next_pending [] ws t h = none_before_least t ws (ap (from t) h ∙ ap not (not_before_self t))
next_pending (e ∷ es) ws t h =
    let same : earlier e.tag (least_pending ws) ≡ t = cc in
    none_before_least t ws (from_next t e.tag (least_pending ws) same)

-- names in order: none behind stands at an earlier tag
none_earlier : (t : Moment) (e : Entry) (ds : List Entry) → is_before e.tag t ≡ false → AllByRecursion (λ d. IsTrue (name_before e.origin e.tag d)) ds → IsTrue (list_all (λ d. not (is_before d.tag t)) ds)
none_earlier t e [] h a = refl
none_earlier t e (d ∷ ds) h a =
    let first : IsTrue (name_before e.origin e.tag d) = a.0 in
    let front : is_before d.tag t ≡ false = grind (arith, nat_tests) in
    let rest : IsTrue (list_all (λ c. not (is_before c.tag t)) ds) = none_earlier t e ds h a.1 in
    grind (arith, nat_tests)

-- no entry is before the next tag
pub next_entries : (rest : List Entry) (o : Option Moment) (t : Moment) → IsTable rest → next_of rest o ≡ Some t → IsTrue (list_all (λ e. not (is_before e.tag t)) rest)
next_entries [] o t table h = refl
next_entries (e ∷ es) o t table h =
    let same : earlier e.tag o ≡ t = cc in
    let front : is_before e.tag t ≡ false = subst (λ (u : Moment). is_before e.tag u ≡ false) same (earlier_first e.tag o) in
    let rest : IsTrue (list_all (λ d. not (is_before d.tag t)) es) = none_earlier t e es front table.0 in
    grind (arith, nat_tests)

-- the earlier of a tag and one that may be missing is the tag where it is not the other
first_at : (t a : Moment) (o : Option Moment) → earlier a o ≡ t → is_at t o ≡ false → is_same t a ≡ true
first_at t a None h k = subst (λ (u : Moment). is_same u a ≡ true) h (is_same_self a)
first_at t a (Some u) h k = elim (cases_Bool (is_before u a)) [
  | inl less ↦
      let is : u ≡ t = rw less at h in
      let here : is_same u t ≡ true = subst (λ (v : Moment). is_same u v ≡ true) is (is_same_self u) in
      let never : true ≡ false = sym here ∙ k in cc
  | inr more ↦
      let is : a ≡ t = rw more at h in
      subst (λ (v : Moment). is_same v a ≡ true) is (is_same_self a)
]

-- where nothing is pending at the next tag, an entry stands there
pub next_moves : (rest : List Entry) (ws : List Waiting) (t : Moment) (n : ℕ) → next_of rest (least_pending ws) ≡ Some t → list_any (λ w. is_same w.tag t) ws ≡ false
    → HasOtherHead t (drop n rest) → 0 < n
next_moves [] ws t n next none other =
    let never : true ≡ false = sym (is_same_self t) ∙ ap (is_at t) (sym next) ∙ least_any t ws (next_pending [] ws t next) ∙ none in cc
next_moves (e ∷ es) ws t (suc n) next none other = omega arith
next_moves (e ∷ es) ws t zero next none other =
    let same : earlier e.tag (least_pending ws) ≡ t = cc in
    let pending : is_at t (least_pending ws) ≡ false = least_any t ws (next_pending (e ∷ es) ws t next) ∙ none in
    let never : true ≡ false = sym (first_at t e.tag (least_pending ws) same pending) ∙ other in cc
