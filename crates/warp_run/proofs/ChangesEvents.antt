-- What a change of one name leaves of the live events, and the latest tag after it.
use Rattle.std.proofs.Common.{◌≡◌, ℕ, ℤ, Bool, true, false, not, List, [], ◌∷◌, ap, sym, ◌∙◌, refl, inl, inr, Option, Some, None, filter, arith, unwrap_or}
use Rattle.std.specs.List.{cons_option, list_all}
use Rattle.std.proofs.lemmas.Bool.{cases_Bool}
use Rattle.std.proofs.lemmas.Bool.Decides.{nat_tests}
use Rattle.warp_tag.specs.Moment.{Moment, is_before}
use Rattle.warp_tag.specs.Table.{Event, changed, fresh, has_name, known, live, live_event, name_before}
use Rattle.warp_tag.specs.declared.entry.Entry.{Entry}
use Rattle.warp_tag.proofs.Known.{known_here, known_past}
use Rattle.warp_tag.proofs.Lists.{filter-here, filter-past}
use Rattle.warp_tag.proofs.Names.{named_is}
use Rattle.warp_tag.proofs.Tables.{KeepsNames}
use Rattle.warp_tag.proofs.Tags.{not_before_self}
use Rattle.warp_step.specs.Run.{events_until, is_after}
use Rattle.warp_run.specs.Walk.{AreThrough}
use Rattle.warp_run.specs.Warp.{latest_with}
use Rattle.warp_run.proofs.RowsMoved.{events_past}

module _ (q : Moment → Bool) where
  -- the events at tags that pass
  abbrev passing : List Event → List Event
  passing E = filter (λ e. q e.tag) E

  -- an entry whose tag does not pass adds nothing
  adds_none : (o : ℕ) (t : Moment) (event : Option (ℕ × ℤ)) (withdrawn : Bool) (E : List Event) → q t ≡ false
      → passing (cons_option (live_event (record { origin = o; tag = t; event = event; withdrawn = withdrawn })) E) ≡ passing E
  adds_none o t event true E h = refl
  adds_none o t None false E h = refl
  adds_none o t (Some p) false E h = filter-past (λ e. q e.tag) (record { origin = o; tag = t; input = p.0; value = p.1 }) E h

  same_passing : (a : Option Event) (D E : List Event) → passing D ≡ passing E → passing (cons_option a D) ≡ passing (cons_option a E)
  same_passing None D E h = h
  same_passing (Some e) D E h = elim (cases_Bool (q e.tag)) [
    | inl so ↦
        filter-here (λ d. q d.tag) e D so ∙ ap (λ (es : List Event). e ∷ es) h ∙ sym (filter-here (λ d. q d.tag) e E so)
    | inr not_so ↦ filter-past (λ d. q d.tag) e D not_so ∙ h ∙ sym (filter-past (λ d. q d.tag) e E not_so)
  ]

  -- where the tag of the name does not pass, a change of the name leaves the events at tags that pass
  passing_stay : (f : Entry → Entry) → KeepsNames f → (o : ℕ) (t : Moment) (es : List Entry) → q t ≡ false
      → passing (live (changed f o t es)) ≡ passing (live es)
  passing_stay f names o t [] h =
      let new : Entry = f (fresh o t) in
      adds_none new.origin new.tag new.event new.withdrawn [] (ap q (names (fresh o t)).1 ∙ h)
  passing_stay f names o t (e ∷ es) h = elim (cases_Bool (name_before o t e)) [
    | inl b ↦
        let new : Entry = f (fresh o t) in
        rw b (adds_none new.origin new.tag new.event new.withdrawn (live (e ∷ es)) (ap q (names (fresh o t)).1 ∙ h))
    | inr b ↦ elim (cases_Bool (has_name o t e)) [
      | inl n ↦
          let new : Entry = f e in
          let old : q e.tag ≡ false = ap q (sym (named_is o t e n).1) ∙ h in
          rw (b, n)
          (adds_none new.origin new.tag new.event new.withdrawn (live es) (ap q (names e).1 ∙ old)
          ∙ sym (adds_none e.origin e.tag e.event e.withdrawn (live es) old))
      | inr n ↦ rw (b, n) (same_passing (live_event e) (live (changed f o t es)) (live es) (passing_stay f names o t es h))
    ]
  ]

-- before a tag that is not after the name's, a change of the name leaves all events
pub early_stay : (f : Entry → Entry) → KeepsNames f → (o : ℕ) (t : Moment) (es : List Entry) (end : Moment) → is_before t end ≡ false
    → events_until end (live es) ≡ events_until end (live (changed f o t es))
early_stay f names o t es end h = sym (passing_stay (λ s. is_before s end) f names o t es h)

-- and so after the name's tag
pub late_stay : (f : Entry → Entry) → KeepsNames f → (o : ℕ) (t : Moment) (es : List Entry)
    → events_past t (live es) ≡ events_past t (live (changed f o t es))
late_stay f names o t es = sym (passing_stay (is_before t) f names o t es (not_before_self t))

-- what a table knows of a name is of its tag
pub known_tag : (o : ℕ) (t : Moment) (es : List Entry) → (unwrap_or (known o t es) (fresh o t)).tag ≡ t
known_tag o t [] = refl
known_tag o t (e ∷ es) = elim (cases_Bool (has_name o t e)) [
  | inl h ↦ ap (λ k. (unwrap_or k (fresh o t)).tag) (known_here o t e es h) ∙ sym (named_is o t e h).1
  | inr h ↦ ap (λ k. (unwrap_or k (fresh o t)).tag) (known_past o t e es h) ∙ known_tag o t es
]

-- with one more tag the latest tag is not before what it was not before
still_through : (t u : Moment) (latest : Option Moment) → not (is_after latest u) ≡ true → not (is_after (latest_with t latest) u) ≡ true
still_through t u None h = let no : false ≡ true = h in cc
still_through t u (Some s) h = elim (cases_Bool (is_before s t)) [
  | inl later ↦ rw later (grind (arith, nat_tests))
  | inr so ↦ rw so h
]

-- so no event is after it
pub all_through : (t : Moment) (latest : Option Moment) (E : List Event) → AreThrough latest E → AreThrough (latest_with t latest) E
all_through t latest [] h = refl
all_through t latest (e ∷ E) h = elim (cases_Bool (not (is_after latest e.tag))) [
  | inl so ↦
      let rest : list_all (λ d. not (is_after latest d.tag)) E ≡ true = rw so at h in
      rw (still_through t e.tag latest so) (all_through t latest E rest)
  | inr not_so ↦ let no : false ≡ true = rw not_so at h in cc
]

-- nor is the one more
pub one_through : (t : Moment) (latest : Option Moment) → not (is_after (latest_with t latest) t) ≡ true
one_through t latest = elim (cases_Bool (is_after latest t)) [
  | inl later ↦ rw (later, not_before_self t) refl
  | inr so ↦ rw (so, so) refl
]
