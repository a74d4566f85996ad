-- The next tag that waits: the earlier of the first event after the last row and the least pending entry.
use Rattle.std.proofs.Common.{arith, ◌≡◌, inl, inr, Bool, true, not, ◌||◌, List, [], ◌∷◌, ap, sym, subst, ◌∙◌, refl, filter, IsTrue, Option, Some, None}
use Rattle.std.specs.List.{cons_option, list_all}
use Rattle.std.proofs.lemmas.Bool.{cases_Bool}
use Rattle.std.proofs.lemmas.Bool.Decides.{nat_tests}
use Rattle.warp_tag.specs.Moment.{Moment, is_before}
use Rattle.warp_tag.specs.Table.{Event, IsTable, live, live_event}
use Rattle.warp_tag.specs.declared.entry.Entry.{Entry}
use Rattle.warp_tag.proofs.Lists.{filter-here, filter-past}
use Rattle.warp_tag.proofs.Tags.{is_same_self}
use Rattle.warp_step.specs.Snapshot.{Snapshot, least_pending}
use Rattle.warp_step.specs.Run.{IsNext, is_after}
use Rattle.warp_step.specs.declared.pending.Waiting.{Waiting}
use Rattle.warp_step.proofs.TagsOfRun.{waits_after, waits_at}
use Rattle.warp_step.proofs.ValidLemmas.{list_all_weaker}
use Rattle.warp_line.specs.inner.Replay.{none_before}
use Rattle.warp_line.proofs.NextLemmas.{is_at, least_any, next_entries, next_pending, none_pending}
use Rattle.warp_line.proofs.ReplayLemmas.{live_name, live_tags}
use Rattle.warp_line.proofs.RunLemmas.{past, pends, stands}
use Rattle.warp_run.specs.Walk.{AreNotBefore, first_tag}
use Rattle.warp_line.proofs.ProgressLemmas.{turned}

-- of these events none is before an earlier one in the list
abbrev pub AreSorted : List Event → Type 0
AreSorted [] = Unit {0}
AreSorted (e ∷ E) = IsTrue (list_all (λ d. not (is_before d.tag e.tag)) E) × AreSorted E

sorted_cons : (o : Option Event) (E : List Event) → ((v : Event) → o ≡ Some v → IsTrue (list_all (λ d. not (is_before d.tag v.tag)) E))
    → AreSorted E → AreSorted (cons_option o E)
sorted_cons None E h k = k
sorted_cons (Some v) E h k = (h v refl, k)

-- so it is with the live events of a table
pub live_sorted : (es : List Entry) → IsTable es → AreSorted (live es)
live_sorted [] table = tt
live_sorted (e ∷ es) table =
    let all : IsTrue (list_all (λ d. not (is_before d.tag e.tag)) (e ∷ es)) = next_entries (e ∷ es) None e.tag table refl in
    let rest : IsTrue (list_all (λ d. not (is_before d.tag e.tag)) es) = grind (arith, nat_tests) in
    let behind : IsTrue (list_all (λ d. not (is_before d.tag e.tag)) (live es)) = live_tags (λ u. not (is_before u e.tag)) es rest in
    sorted_cons (live_event e) (live es)
    (λ v is. subst (λ (u : Moment). IsTrue (list_all (λ (d : Event). not (is_before d.tag u)) (live es))) (sym (live_name e v is).1) behind)
    (live_sorted es table.1)

-- not after the last row, or not before the tag
abbrev pub misses : Option Moment → Moment → Moment → Bool
misses last t u = not (is_after last u) || not (is_before u t)

-- what is known of the tag of the first event after the last row
pub record IsFirst (last : Option Moment) (E : List Event) (a : Moment) : Type 0 where
  pub after : is_after last a ≡ true
  pub there : stands a E ≡ true
  pub none : IsTrue (list_all (λ e. misses last a e.tag) E)

-- the first of those in order is the least
pub first_is : (last : Option Moment) (E : List Event) (a : Moment) → AreSorted E
    → first_tag (filter (λ e. is_after last e.tag) E) ≡ Some a → IsFirst last E a
first_is last [] a sorted is = cc
first_is last (e ∷ E) a sorted is = elim (cases_Bool (is_after last e.tag)) [
  | inl later ↦
      let here : Some e.tag ≡ Some a = sym (ap first_tag (filter-here (λ (d : Event). is_after last d.tag) e E later)) ∙ is in
      let same : e.tag ≡ a = cc in
      let self = is_same_self e.tag in
      let behind = sorted.0 in
      let all : IsTrue (list_all (λ d. not (is_before d.tag e.tag)) (e ∷ E)) = grind (arith, nat_tests) in
      let found : IsFirst last (e ∷ E) e.tag = record {
        after = later;
        there = grind (arith, nat_tests);
        none = list_all_weaker (λ (d : Event). not (is_before d.tag e.tag)) (λ d. misses last e.tag d.tag)
            (λ d before. grind (arith, nat_tests)) (e ∷ E) all;
      } in
      subst (λ (u : Moment). IsFirst last (e ∷ E) u) same found
  | inr old ↦
      let rest = first_is last E a sorted.1 (sym (ap first_tag (filter-past (λ (d : Event). is_after last d.tag) e E old)) ∙ is) in
      let there = rest.there in
      let none = rest.none in
      record { after = rest.after; there = grind (arith, nat_tests); none = grind (arith, nat_tests) }
]

-- where there is none, all are past
pub first_none : (last : Option Moment) (E : List Event) → first_tag (filter (λ e. is_after last e.tag) E) ≡ None → IsTrue (past last E)
first_none last [] is = refl
first_none last (e ∷ E) is = elim (cases_Bool (is_after last e.tag)) [
  | inl later ↦
      let here : Some e.tag ≡ None = sym (ap first_tag (filter-here (λ (d : Event). is_after last d.tag) e E later)) ∙ is in cc
  | inr old ↦
      let rest = first_none last E (sym (ap first_tag (filter-past (λ (d : Event). is_after last d.tag) e E old)) ∙ is) in grind (arith, nat_tests)
]

-- what is known of the tag of the least pending entry
pub record IsLeast (last : Option Moment) (ws : List Waiting) (b : Moment) : Type 0 where
  pub after : is_after last b ≡ true
  pub there : pends b ws ≡ true
  pub none : IsTrue (none_before b ws)

-- the least of what is pending, all of it after the last row
pub least_is : (last : Option Moment) (ws : List Waiting) (b : Moment) → IsTrue (list_all (λ w. is_after last w.tag) ws)
    → least_pending ws ≡ Some b → IsLeast last ws b
least_is last ws b later is =
    let none : IsTrue (none_before b ws) = next_pending [] ws b is in
    let there : pends b ws ≡ true = sym (turned b ws) ∙ sym (least_any b ws none) ∙ ap (is_at b) is ∙ is_same_self b in
    record {
      after = waits_at (is_after last) [] None (record { vars = []; pending = ws; lost = 0 }) b refl later there;
      there = there;
      none = none;
    }

-- a tag after the last row where something stands, and before which nothing does, is the next
next_is : (E : List Event) (last : Option Moment) (s : Snapshot) (t : Moment) → is_after last t ≡ true → (stands t E || pends t s.pending) ≡ true
    → IsTrue (list_all (λ e. misses last t e.tag) E) → IsTrue (none_before t s.pending) → IsNext E last s t
next_is E last s t after there events none = record {
  waiting = grind (arith, nat_tests);
  least = λ u h.
      let later = waits_after E last s u h in
      let passes = waits_at (misses last t) E last s u events
      (list_all_weaker (λ (w : Waiting). not (is_before w.tag t)) (λ w. misses last t w.tag)
      (λ w before. grind (arith, nat_tests)) s.pending none) h in
      grind (arith, nat_tests);
}

-- the first event is next where nothing is pending
pub event_alone : (E : List Event) (last : Option Moment) (s : Snapshot) (a : Moment) → IsFirst last E a → least_pending s.pending ≡ None
    → IsNext E last s a
event_alone E last s a first none =
    let there = first.there in
    next_is E last s a first.after (grind (arith, nat_tests)) first.none
    (subst (λ (ws : List Waiting). IsTrue (none_before a ws)) (sym (none_pending s.pending none)) refl)

-- and where it is before the least entry
pub event_before : (E : List Event) (last : Option Moment) (s : Snapshot) (a b : Moment) → IsFirst last E a → IsLeast last s.pending b
    → is_before a b ≡ true → IsNext E last s a
event_before E last s a b first least before =
    let there = first.there in
    next_is E last s a first.after (grind (arith, nat_tests)) first.none
    (list_all_weaker (λ (w : Waiting). not (is_before w.tag b)) (λ w. not (is_before w.tag a))
    (λ w later. grind (arith, nat_tests)) s.pending least.none)

-- of the events after the last row none is before the tag
all_miss : (last : Option Moment) (E : List Event) (b : Moment) → AreNotBefore b (filter (λ e. is_after last e.tag) E)
    → IsTrue (list_all (λ e. misses last b e.tag) E)
all_miss last [] b none = refl
all_miss last (e ∷ E) b none = elim (cases_Bool (is_after last e.tag)) [
  | inl later ↦
      let here : AreNotBefore b (e ∷ filter (λ d. is_after last d.tag) E) =
      subst (AreNotBefore b) (filter-here (λ (d : Event). is_after last d.tag) e E later) none in
      let first : not (is_before e.tag b) ≡ true = grind (arith, nat_tests) in
      let behind : AreNotBefore b (filter (λ d. is_after last d.tag) E) = grind (arith, nat_tests) in
      let rest = all_miss last E b behind in
      grind (arith, nat_tests)
  | inr old ↦
      let rest = all_miss last E b (subst (AreNotBefore b) (filter-past (λ (d : Event). is_after last d.tag) e E old) none) in
      grind (arith, nat_tests)
]

-- the least entry is next where no event after the last row is before it
pub entry_next : (E : List Event) (last : Option Moment) (s : Snapshot) (b : Moment) → IsLeast last s.pending b
    → AreNotBefore b (filter (λ e. is_after last e.tag) E) → IsNext E last s b
entry_next E last s b least none =
    let there = least.there in
    next_is E last s b least.after (grind (arith, nat_tests)) (all_miss last E b none) least.none
