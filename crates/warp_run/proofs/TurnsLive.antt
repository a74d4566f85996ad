-- Live events of entries and places that a test of tags keeps.
use Rattle.std.proofs.Common.{◌≡◌, inl, inr, Bool, true, false, not, cond, ◌&&◌, List, [], ◌∷◌, ap, sym, subst, ◌∙◌, refl, arith, filter, IsTrue, Option, Some, None}
use Rattle.std.specs.List.{cons_option, list_all, list_any, AllByRecursion}
use Rattle.std.proofs.lemmas.Bool.{cases_Bool}
use Rattle.std.proofs.lemmas.Bool.Decides.{nat_tests}
use Rattle.warp_tag.specs.Moment.{Moment, is_before, is_same}
use Rattle.warp_tag.specs.Table.{Event, live, live_event}
use Rattle.warp_tag.specs.declared.entry.Entry.{Entry}
use Rattle.warp_tag.proofs.Lists.{filter-here, filter-past}
use Rattle.warp_tag.proofs.Tags.{is_same_self, same_is}
use Rattle.warp_arena.specs.Places.{Place, entries_of}
use Rattle.warp_arena.proofs.Tables.{filter-map_at}
use Rattle.warp_step.specs.Snapshot.{Snapshot}
use Rattle.warp_step.specs.Run.{IsNext, is_after, waits}
use Rattle.warp_step.proofs.TagsOfRun.{after_trans, waits_after}
use Rattle.warp_line.proofs.ReplayLemmas.{live_name}
use Rattle.warp_run.specs.Walk.{ahead, live_of}

cons_kept : (p : Moment → Bool) (o : Option Event) (E F : List Event) → ((v : Event) → o ≡ Some v → p v.tag ≡ true)
    → filter (λ e. p e.tag) E ≡ F → filter (λ e. p e.tag) (cons_option o E) ≡ cons_option o F
cons_kept p None E F h k = k
cons_kept p (Some v) E F h k = filter-here (λ (e : Event). p e.tag) v E (h v refl) ∙ ap (λ (es : List Event). v ∷ es) k

cons_left : (p : Moment → Bool) (o : Option Event) (E F : List Event) → ((v : Event) → o ≡ Some v → p v.tag ≡ false)
    → filter (λ e. p e.tag) E ≡ F → filter (λ e. p e.tag) (cons_option o E) ≡ F
cons_left p None E F h k = k
cons_left p (Some v) E F h k = filter-past (λ (e : Event). p e.tag) v E (h v refl) ∙ k

-- the live events of the entries that a test of tags keeps are the live events that it keeps
pub live_kept : (p : Moment → Bool) (es : List Entry) → live (filter (λ d. p d.tag) es) ≡ filter (λ e. p e.tag) (live es)
live_kept p [] = refl
live_kept p (d ∷ ds) = elim (cases_Bool (p d.tag)) [
  | inl h ↦
      ap live (filter-here (λ (c : Entry). p c.tag) d ds h)
      ∙ sym (cons_kept p (live_event d) (live ds) (live (filter (λ c. p c.tag) ds)) (λ v is. ap p (live_name d v is).1 ∙ h) (sym (live_kept p ds)))
  | inr h ↦
      ap live (filter-past (λ (c : Entry). p c.tag) d ds h)
      ∙ sym (cons_left p (live_event d) (live ds) (live (filter (λ c. p c.tag) ds)) (λ v is. ap p (live_name d v is).1 ∙ h) (sym (live_kept p ds)))
]

-- and so of places
pub live_places : (p : Moment → Bool) (places : List Place) → live_of (filter (λ q. p q.entry.tag) places) ≡ filter (λ e. p e.tag) (live_of places)
live_places p places = ap live (sym (filter-map_at (λ (d : Entry). p d.tag) (λ (q : Place). q.entry) places)) ∙ live_kept p (entries_of places)

-- what all pass, those that a filter keeps pass too
pub all_kept : {X : Type 0} (p q : X → Bool) (xs : List X) → IsTrue (list_all q xs) → IsTrue (list_all q (filter p xs))
all_kept p q [] h = refl
all_kept p q (x ∷ xs) h =
    let front : IsTrue (q x) = grind (arith, nat_tests) in
    let back : IsTrue (list_all q xs) = grind (arith, nat_tests) in
    let rest : IsTrue (list_all q (filter p xs)) = all_kept p q xs back in
    elim (cases_Bool (p x)) [
      | inl here ↦ subst (λ ys. IsTrue (list_all q ys)) (sym (filter-here p x xs here)) (grind (arith, nat_tests))
      | inr away ↦ subst (λ ys. IsTrue (list_all q ys)) (sym (filter-past p x xs away)) rest
    ]

-- a filter of what a filter keeps is one filter by both tests
pub both_filters : {X : Type 0} (p q : X → Bool) (xs : List X) → filter q (filter p xs) ≡ filter (λ x. p x && q x) xs
both_filters p q [] = refl
both_filters p q (x ∷ xs) = elim (cases_Bool (p x)) [
  | inl h ↦
      ap (filter q) (filter-here p x xs h) ∙ ap (λ ys. cond (q x) (x ∷ ys) ys) (both_filters p q xs)
      ∙ ap (λ b. cond (b && q x) (x ∷ filter (λ y. p y && q y) xs) (filter (λ y. p y && q y) xs)) (sym h)
  | inr h ↦
      ap (filter q) (filter-past p x xs h) ∙ both_filters p q xs
      ∙ ap (λ b. cond (b && q x) (x ∷ filter (λ y. p y && q y) xs) (filter (λ y. p y && q y) xs)) (sym h)
]

-- tests that agree on each element keep the same
pub same_filters : {X : Type 0} (p q : X → Bool) (xs : List X) → AllByRecursion (λ x. p x ≡ q x) xs → filter p xs ≡ filter q xs
same_filters p q [] h = refl
same_filters p q (x ∷ xs) h = ap (λ b. cond b (x ∷ filter p xs) (filter p xs)) h.0 ∙ ap (λ ys. cond (q x) (x ∷ ys) ys) (same_filters p q xs h.1)

narrower : (last : Option Moment) (t u : Moment) → is_after last t ≡ true → (is_after last u && is_before t u) ≡ is_before t u
narrower last t u h = elim (cases_Bool (is_before t u)) [
  | inl later ↦ let first = after_trans last t u h later in grind (arith, nat_tests)
  | inr early ↦ grind (arith, nat_tests)
]

-- the places after a tag, of those after an earlier one
pub ahead_twice : (last : Option Moment) (t : Moment) (places : List Place) → is_after last t ≡ true
    → ahead (Some t) (ahead last places) ≡ ahead (Some t) places
ahead_twice last t places h =
    both_filters (λ (p : Place). is_after last p.entry.tag) (λ p. is_before t p.entry.tag) places
    ∙ ap (λ (test : Place → Bool). filter test places) (λ i p. narrower last t p.entry.tag h i)

-- of the events after the last row those not after the next tag are those at it
pub at_next : (E : List Event) (last : Option Moment) (s : Snapshot) (t : Moment) → IsNext E last s t
    → filter (λ e. not (is_before t e.tag)) (filter (λ e. is_after last e.tag) E) ≡ filter (λ e. is_same t e.tag) E
at_next E last s t next =
    both_filters (λ (e : Event). is_after last e.tag) (λ e. not (is_before t e.tag)) E
    ∙ same_filters (λ (e : Event). is_after last e.tag && not (is_before t e.tag)) (λ e. is_same t e.tag) E (by E (λ u there. there))
  where
    here : (e : Event) → list_any (λ d. is_same e.tag d.tag) E ≡ true → (is_after last e.tag && not (is_before t e.tag)) ≡ is_same t e.tag
    here e there = elim (cases_Bool (is_after last e.tag)) [
      | inl later ↦
          let waiting : waits E last s e.tag ≡ true = grind (arith, nat_tests) in
          let least : is_before e.tag t ≡ false = next.least e.tag waiting in
          grind (arith, nat_tests)
      | inr old ↦ elim (cases_Bool (is_same t e.tag)) [
        | inl same ↦
            let never : true ≡ false = sym (waits_after E last s t next.waiting) ∙ ap (is_after last) (same_is t e.tag same) ∙ old in cc
        | inr other ↦ grind (arith, nat_tests)
      ]
    ]

    by : (xs : List Event) → ((u : Moment) → list_any (λ d. is_same u d.tag) xs ≡ true → list_any (λ d. is_same u d.tag) E ≡ true)
        → AllByRecursion (λ e. (is_after last e.tag && not (is_before t e.tag)) ≡ is_same t e.tag) xs
    by [] within = tt
    by (e ∷ xs) within =
        let self = is_same_self e.tag in
        let there : list_any (λ d. is_same e.tag d.tag) (e ∷ xs) ≡ true = grind (arith, nat_tests) in
        (here e (within e.tag there), by xs (λ u h. within u (grind (arith, nat_tests))))
