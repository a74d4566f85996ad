-- Stretches: cut at a tag, one more, and that no event is at a tag of one.
use Rattle.std.proofs.Common.{slice_set, take, length, ◌++◌, zero, suc, None, ◌≡◌, ℕ, Bool, true, false, not, ◌&&◌, ◌||◌, ◌⊎◌, List, [], ◌∷◌, refl, sym, ap, ◌∙◌, subst, inl, inr, map, arith, IsTrue, Option, Some}
use Rattle.std.specs.List.{list_all, list_any}
use Rattle.std.proofs.lemmas.Bool.{cases_Bool, false≢true}
use Rattle.std.proofs.lemmas.Bool.Decides.{nat_tests}
use Rattle.warp_tag.specs.Moment.{Moment, is_before, is_same}
use Rattle.warp_tag.specs.Table.{Event, live}
use Rattle.warp_tag.proofs.Tags.{is_same_self, not_before_self}
use Rattle.warp_step.specs.Run.{IsNext, is_after, waits}
use Rattle.warp_step.specs.Snapshot.{Snapshot}
use Rattle.warp_run.specs.Skips.{AreFree, IsCut, covers, cut_at, spanned, spans}
use Rattle.warp_line.specs.Timeline.{Standing}
use Rattle.warp_run.specs.Walk.{tag_of_next}
use Rattle.warp_run.specs.Warp.{StandsFor}
use Rattle.warp_run.specs.declared.skips.Skip.{Skip}
use Rattle.warp_run.specs.declared.walk.Live.{Live}
use Rattle.warp_run.specs.declared.walk.Next.{Next}
use Rattle.warp_run.specs.declared.walk.Next.TheVariants.{AtEvent}
use Rattle.warp_run.specs.declared.warp.Warp.{Warp}
use Rattle.warp_run.specs.declared.skips.Skips.{Skips}

-- ---- cut at a tag

-- a stretch that was cut at a tag does not have it
apart_one : (tag : Moment) (place : Option ℕ) (s : Skip) → spans (cut_at tag place s) tag ≡ false
apart_one tag place s = elim (cases_Bool (spans s tag)) [
  | inl so ↦ elim (cases_Bool (is_before tag s.from)) [
    | inl b ↦ rw (so, b) (ap (λ x. x && is_before tag s.to) (not_before_self tag))
    | inr b ↦ let self = not_before_self tag in rw (so, b) (rw self (grind (arith, nat_tests)))
  ]
  | inr not_so ↦ rw not_so not_so
]

both : (a b : Bool) → (a && b) ≡ true → (a ≡ true) × (b ≡ true)
both true true h = (refl, refl)
both true false h = absurd (false≢true h)
both false b h = absurd (false≢true h)

-- nor more than it had
narrow_one : (tag : Moment) (place : Option ℕ) (s : Skip) (t : Moment) → spans (cut_at tag place s) t ≡ true → spans s t ≡ true
narrow_one tag place s t h = elim (cases_Bool (spans s tag)) [
  | inl so ↦ elim (cases_Bool (is_before tag s.from)) [
    | inl b ↦ let k : (is_before tag t && is_before t s.to) ≡ true = rw (so, b) at h in behind s.after s.to so k
    | inr b ↦ let k : (is_after s.after t && is_before t tag) ≡ true = rw (so, b) at h in front (is_after s.after t) s.to so k
  ]
  | inr not_so ↦ rw not_so at h
]
  where
    later : (a u : Moment) → is_before a tag ≡ true → is_before tag u ≡ true → is_before a u ≡ true
    later a u x y = grind (arith, nat_tests)

    after_on : (after : Option Moment) → is_after after tag ≡ true → is_before tag t ≡ true → is_after after t ≡ true
    after_on None x y = refl
    after_on (Some a) x y = later a t x y

    earlier : (to : Moment) → is_before tag to ≡ true → is_before t tag ≡ true → is_before t to ≡ true
    earlier to x y = grind (arith, nat_tests)

    behind : (after : Option Moment) (to : Moment) → (is_after after tag && is_before tag to) ≡ true → (is_before tag t && is_before t to) ≡ true
        → (is_after after t && is_before t to) ≡ true
    behind after to so k =
        let late : is_after after t ≡ true = after_on after (both (is_after after tag) (is_before tag to) so).0 (both (is_before tag t) (is_before t to) k).0 in
        let early : is_before t to ≡ true = (both (is_before tag t) (is_before t to) k).1 in
        rw (late, early) refl

    front : (b : Bool) (to : Moment) → (is_after s.after tag && is_before tag to) ≡ true → (b && is_before t tag) ≡ true → (b && is_before t to) ≡ true
    front b to so k =
        let late : b ≡ true = (both b (is_before t tag) k).0 in
        let early : is_before t to ≡ true = earlier to (both (is_after s.after tag) (is_before tag to) so).1 (both b (is_before t tag) k).1 in
        rw (late, early) refl

either : (b : Bool) → (b || true) ≡ true
either true = refl
either false = refl

-- so it is with all of them
pub apart_all : (tag : Moment) (place : Option ℕ) (ss : List Skip) → spanned (map (cut_at tag place) ss) tag ≡ false
apart_all tag place [] = refl
apart_all tag place (s ∷ ss) = rw (apart_one tag place s) (apart_all tag place ss)

pub narrow_all : (tag : Moment) (place : Option ℕ) (ss : List Skip) (t : Moment) → spanned (map (cut_at tag place) ss) t ≡ true → spanned ss t ≡ true
narrow_all tag place [] t h = h
narrow_all tag place (s ∷ ss) t h = elim (cases_Bool (spans (cut_at tag place s) t)) [
  | inl so ↦ rw (narrow_one tag place s t so) refl
  | inr not_so ↦
      let rest : spanned ss t ≡ true = narrow_all tag place ss t (rw not_so at h) in
      rw rest (either (spans s t))
]

-- so all were cut
pub all_cut : (tag : Moment) (place : Option ℕ) (old new : Skips) → new.kept.items ≡ map (cut_at tag place) old.kept.items → IsCut tag old new
all_cut tag place old new is = record {
  apart = ap (λ (ss : List Skip). spanned ss tag) is ∙ apart_all tag place old.kept.items;
  narrow = λ t h. narrow_all tag place old.kept.items t (sym (ap (λ (ss : List Skip). spanned ss t) is) ∙ h);
}

-- as many items written over a list are the list
pub written_over : (ws ys : List Skip) (n : ℕ) → length ws ≡ n → take n (ws ++ ys) ≡ ws
written_over [] ys zero many = refl
written_over [] ys (suc n) many = absurd (omega (arith, many))
written_over (x ∷ ws) ys zero many = absurd (omega (arith, many))
written_over (x ∷ ws) ys (suc n) many = ap (λ l. x ∷ l) (written_over ws ys n (omega (arith, many)))

-- and where there is none, none has the tag
pub none_cut : (tag : Moment) (s : Skips) → s.kept.items ≡ [] → IsCut tag s s
none_cut tag s is = record { apart = ap (λ (ss : List Skip). spanned ss tag) is; narrow = λ t h. h }

-- one more, in the place of another
pub any_set : (xs : List Skip) (i : ℕ) (s : Skip) (t : Moment) → spanned (slice_set xs i s) t ≡ true → (spanned xs t ≡ true) ⊎ (spans s t ≡ true)
any_set [] zero s t h = inl h
any_set [] (suc i) s t h = inl h
any_set (x ∷ xs) zero s t h = elim (cases_Bool (spans s t)) [
  | inl so ↦ inr so
  | inr not_so ↦ let rest : spanned xs t ≡ true = rw not_so at h in inl (rw rest (either (spans x t)))
]
any_set (x ∷ xs) (suc i) s t h = elim (cases_Bool (spans x t)) [
  | inl so ↦ inl (rw so refl)
  | inr not_so ↦ elim (any_set xs i s t (rw not_so at h)) [ inl a ↦ inl (rw not_so a) | inr b ↦ inr b ]
]

-- ---- no event is at a tag of a stretch

-- where there is a stretch at a tag only where there was one, or between two tags at which no event is
pub still_free : (old new : Skips) (has : Moment → Bool) → ((t : Moment) → covers new t ≡ true → (covers old t ≡ true) ⊎ (has t ≡ true)) → (E : List Event)
    → AreFree old E → IsTrue (list_all (λ e. not (has e.tag)) E) → AreFree new E
still_free old new has only [] free none = refl
still_free old new has only (e ∷ E) free none =
    let here : not (covers old e.tag) ≡ true = grind (arith, nat_tests) in
    let away : not (has e.tag) ≡ true = grind (arith, nat_tests) in
    let rest = still_free old new has only E (grind (arith, nat_tests)) (grind (arith, nat_tests)) in
    elim (cases_Bool (covers new e.tag)) [
      | inl so ↦ elim (only e.tag so) [
        | inl was ↦ absurd (false≢true (rw was at here))
        | inr is ↦ absurd (false≢true (rw is at away))
      ]
      | inr not_so ↦ rw not_so rest
    ]

-- after a cut there is none more
pub cut_free : (tag : Moment) (old new : Skips) → IsCut tag old new → (E : List Event) → AreFree old E → AreFree new E
cut_free tag old new cut E free = still_free old new (λ t. false) (λ t so. inl (cut.narrow t so)) E free (all_true E)
  where
    all_true : (xs : List Event) → IsTrue (list_all (λ e. not false) xs)
    all_true [] = refl
    all_true (x ∷ xs) = all_true xs

-- between the last row and the next tag no event is
pub none_between : (E : List Event) (last : Option Moment) (s : Snapshot) (t : Moment) → IsNext E last s t
    → IsTrue (list_all (λ e. not (is_after last e.tag && is_before e.tag t)) E)
none_between E last s t next = by E (λ u there. there)
  where
    by : (xs : List Event) → ((u : Moment) → list_any (λ d. is_same u d.tag) xs ≡ true → list_any (λ d. is_same u d.tag) E ≡ true)
        → IsTrue (list_all (λ e. not (is_after last e.tag && is_before e.tag t)) xs)
    by [] within = refl
    by (e ∷ xs) within =
        let self = is_same_self e.tag in
        let there : list_any (λ d. is_same e.tag d.tag) (e ∷ xs) ≡ true = grind (arith, nat_tests) in
        let stands : list_any (λ d. is_same e.tag d.tag) E ≡ true = within e.tag there in
        let rest = by xs (λ u h. within u (grind (arith, nat_tests))) in
        elim (cases_Bool (is_after last e.tag)) [
          | inl later ↦
              let waiting : waits E last s e.tag ≡ true = rw (later, stands) refl in
              rw (next.least e.tag waiting) (grind (arith, nat_tests))
          | inr early ↦ rw early rest
        ]

-- what stands for a program and a table does so with a stretch more up to the next row's event
pub noted : (w : Warp) (m : Standing) (s : Skips) (next : Next) (l : Live) (last : Option Moment) → StandsFor w m
    → IsNext (live m.table) w.tip.last w.tip.state (tag_of_next next) → next ≡ AtEvent l → last ≡ w.tip.last
    → ((t : Moment) → covers s t ≡ true → (covers w.skips t ≡ true) ⊎ ((is_after last t && is_before t l.tag) ≡ true))
    → StandsFor (record w { skips = s }) m
noted w m s next l last h n is same only = record {
  program = h.program;
  origins = h.origins;
  table = h.table;
  ordered = h.ordered;
  events = h.events;
  tip = h.tip;
  cursor = h.cursor;
  latest = h.latest;
  settled = h.settled;
  skips = still_free w.skips s (λ t. is_after last t && is_before t l.tag) only (live m.table) h.skips
      (subst (λ o. IsTrue (list_all (λ e. not (is_after o e.tag && is_before e.tag l.tag)) (live m.table))) (sym same)
      (none_between (live m.table) w.tip.last w.tip.state l.tag
      (subst (λ x. IsNext (live m.table) w.tip.last w.tip.state (tag_of_next x)) is n)));
}
