-- The entries at the tag of a step are a front of what is pending; and what their arrival makes present.
use Rattle.std.proofs.Common.{◌≡◌, ℕ, ℤ, zero, suc, ◌+◌, ◌<◌, Bool, true, false, not, List, [], ◌∷◌, get_or, length, take, drop, filter, IsTrue, refl, sym, ap, ◌∙◌, subst, arith}
use Rattle.std.specs.Prelude.{slice_get}
use Rattle.std.specs.List.{list_all}
use Rattle.std.specs.Option.{option_map_or}
use Rattle.std.proofs.lemmas.Bool.{and_from, and_parts}
use Rattle.std.proofs.lemmas.Bool.Decides.{nat_tests}
use Rattle.std.proofs.lemmas.List.{drop_more}
use Rattle.warp_tag.specs.Moment.{Moment, is_before, is_same}
use Rattle.warp_body.specs.Presence.{Presence, with_value}
use Rattle.warp_body.specs.declared.place.Target.{Target}
use Rattle.warp_body.specs.declared.place.Target.TheVariants as to
use Rattle.warp_step.specs.Snapshot.{Snapshot, AreInOrder, key_before}
use Rattle.warp_step.specs.Step.{arrived_entries}
use Rattle.warp_step.specs.inner.Front.{HasOtherHead}
use Rattle.warp_step.specs.declared.pending.Waiting.{Waiting}
use Rattle.warp_step.proofs.PendingLemmas.{Above}

-- a value leaves the sources
pub with_value_sources : (target : Target) (value : ℤ) (present : Presence) → (with_value target value present).sources ≡ present.sources
with_value_sources to.Startup value present = refl
with_value_sources (to.Timer n) value present = refl
with_value_sources (to.Action n) value present = refl
with_value_sources (to.Port n) value present = refl

-- one more entry arrives behind those before it
pub arrived_more : (ws : List Waiting) (i : ℕ) (d : Waiting) (present : Presence) → i < length ws
    → arrived_entries (take (i + 1) ws) present ≡ with_value (get_or ws i d).target (get_or ws i d).value (arrived_entries (take i ws) present)
arrived_more [] i d present lt = absurd (omega arith)
arrived_more (w ∷ ws) zero d present lt = refl
arrived_more (w ∷ ws) (suc i) d present lt =
    let more : suc i + 1 ≡ suc (i + 1) = omega arith in
    rw more (arrived_more ws i d (with_value w.target w.value present) (omega arith))

-- what holds of all that are left holds of the next one, and of those behind it
pub left_parts : {X : Type 0} (p : X → Bool) (xs : List X) (i : ℕ) (d : X) → i < length xs → IsTrue (list_all p (drop i xs))
    → IsTrue (p (get_or xs i d)) × IsTrue (list_all p (drop (i + 1) xs))
left_parts {X} p xs i d lt all =
    and_parts (p (get_or xs i d)) (list_all p (drop (i + 1) xs)) (subst (λ (ys : List X). IsTrue (list_all p ys)) (drop_more xs i d lt) all)

-- an entry after the tag is not at it, nor is one after that
after_not_same : (t u : Moment) → is_before t u ≡ true → is_same u t ≡ false
after_not_same t u h = grind (arith, nat_tests)

still_after : (t : Moment) (w v : Waiting) → is_before t w.tag ≡ true → key_before w.tag w.target v ≡ true → is_before t v.tag ≡ true
still_after t w v h k = grind (arith, nat_tests)

pub other_after : (t u : Moment) → not (is_before u t) ≡ true → is_same u t ≡ false → is_before t u ≡ true
other_after t u h k = grind (arith, nat_tests)

-- so none of those above it is taken
pub none_at : (t : Moment) (w : Waiting) (ws : List Waiting) → is_before t w.tag ≡ true → Above w.tag w.target ws
    → (filter (λ v. is_same v.tag t) ws ≡ []) × (filter (λ v. not (is_same v.tag t)) ws ≡ ws)
none_at t w [] h all = (refl, refl)
none_at t w (v ∷ ws) h all =
    let other : is_same v.tag t ≡ false = after_not_same t v.tag (still_after t w v h all.0) in
    let rest = none_at t w ws h all.1 in
    rw other (rest.0, ap (λ (xs : List Waiting). v ∷ xs) rest.1)

-- where a front is at the tag and the entry behind it is not, the entries at the tag are the front, and the others the rest
pub front_at : (t : Moment) (ws : List Waiting) (n : ℕ) → AreInOrder ws → IsTrue (list_all (λ w. not (is_before w.tag t)) ws)
    → IsTrue (list_all (λ w. is_same w.tag t) (take n ws)) → HasOtherHead t (drop n ws)
    → (filter (λ w. is_same w.tag t) ws ≡ take n ws) × (filter (λ w. not (is_same w.tag t)) ws ≡ drop n ws)
front_at t [] zero ordered early here other = (refl, refl)
front_at t [] (suc n) ordered early here other = (refl, refl)
front_at t (w ∷ ws) zero ordered early here other =
    let first = and_parts (not (is_before w.tag t)) (list_all (λ v. not (is_before v.tag t)) ws) early in
    let rest = none_at t w ws (other_after t w.tag first.0 other) ordered.0 in
    rw other (rest.0, ap (λ (xs : List Waiting). w ∷ xs) rest.1)
front_at t (w ∷ ws) (suc n) ordered early here other =
    let first = and_parts (not (is_before w.tag t)) (list_all (λ v. not (is_before v.tag t)) ws) early in
    let both = and_parts (is_same w.tag t) (list_all (λ v. is_same v.tag t) (take n ws)) here in
    let rest = front_at t ws n ordered.1 first.1 both.1 other in
    rw both.0 (ap (λ (xs : List Waiting). w ∷ xs) rest.0, rest.1)

-- what is taken of the entries of a state, where so many stand at the tag
pub record Taken (t : Moment) (old : Snapshot) (left : List Waiting) (before after : Presence) : Type 0 where
  pub rest : left ≡ filter (λ w. not (is_same w.tag t)) old.pending
  pub present : after ≡ arrived_entries (filter (λ w. is_same w.tag t) old.pending) before

pub taken : (t : Moment) (old : Snapshot) (ws left : List Waiting) (n : ℕ) (before after : Presence) → ws ≡ old.pending → AreInOrder ws
    → IsTrue (list_all (λ w. not (is_before w.tag t)) old.pending) → IsTrue (list_all (λ w. is_same w.tag t) (take n ws)) → HasOtherHead t (drop n ws)
    → left ≡ drop n ws → after ≡ arrived_entries (take n ws) before → Taken t old left before after
taken t old ws left n before after same ordered early here other dropped arrives =
    let none : IsTrue (list_all (λ w. not (is_before w.tag t)) ws) = rw same early in
    let front = front_at t ws n ordered none here other in
    record {
      rest = dropped ∙ sym front.1 ∙ ap (filter (λ w. not (is_same w.tag t))) same;
      present = arrives ∙ ap (λ (xs : List Waiting). arrived_entries xs before) (sym front.0 ∙ ap (filter (λ w. is_same w.tag t)) same);
    }

-- whether the entry at an index is there and at the tag
abbrev pub stands_at : Moment → List Waiting → ℕ → Bool
stands_at t ws i = option_map_or (λ w. is_same w.tag t) (slice_get ws i) false

-- where none is, the entries from there on begin with another
pub other_head : (t : Moment) (ws : List Waiting) (i : ℕ) → stands_at t ws i ≡ false → HasOtherHead t (drop i ws)
other_head t [] zero h = tt
other_head t [] (suc i) h = tt
other_head t (w ∷ ws) zero h = h
other_head t (w ∷ ws) (suc i) h = other_head t ws i h

-- where the first is, there is one, and the front of one entry is at the tag
pub first_here : (t : Moment) (ws : List Waiting) → stands_at t ws 0 ≡ true → (0 < length ws) × IsTrue (list_all (λ w. is_same w.tag t) (take 1 ws))
first_here t [] h = let no : false ≡ true = h in cc
first_here t (w ∷ ws) h = (omega arith, and_from (is_same w.tag t) true h refl)
