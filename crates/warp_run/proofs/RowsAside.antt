-- Checkpoints that are set aside: what leads from one to the next.
use Rattle.std.proofs.Common.{◌≡◌, ◌⊎◌, inl, inr, ℕ, ◌+◌, ◌-◌, ◌≤◌, false, List, [], ◌∷◌, ◌++◌, length, take, drop, ap, sym, subst, ◌∙◌, arith, Option, None, IfSome, length-append, length-drop, take-append-drop}
use Rattle.std.proofs.lemmas.Bool.{cases_Bool}
use Rattle.std.proofs.lemmas.Grind.{flat_map-append}
use Rattle.std.proofs.lemmas.List.{length-take-le, take-take, take_at, drop_at, drop-drop, append_assoc}
use Rattle.warp_tag.specs.Moment.{Moment}
use Rattle.warp_tag.specs.Table.{Event}
use Rattle.warp_step.specs.Program.{Program}
use Rattle.warp_step.specs.Snapshot.{Snapshot, start_state}
use Rattle.warp_step.specs.Run.{Row, is_after, state_at_end, outputs_of}
use Rattle.warp_tag.specs.declared.out.Out.{Out}
use Rattle.warp_line.specs.Begin.{Begin, BeginFrom, last_after}
use Rattle.warp_run.specs.Aside.{AreAside, IsFrom, KeepsFrom, Leads, SetAside, set_aside, since}
use Rattle.warp_run.specs.Tip.{AreSaved, IsSaved}
use Rattle.warp_run.specs.History.{Saved, newest, spacing}
use Rattle.warp_run.proofs.RowsBegun.{begin_behind, begin_take}
use Rattle.warp_run.proofs.RowsSaved.{last_append, state_append}

-- ---- the rows between two checkpoints

module _ (P : Program) (E : List Event) (done : List Row) (begin : Begin P E done) where
  -- up to a later checkpoint there are the rows up to the earlier one, and those between
  module _ (c d : Saved) (earlier : IsSaved P done c) (later : IsSaved P done d) (order : c.done.rows ≤ d.done.rows) where
    abbrev Tip : List Row
    Tip = take c.done.rows done

    abbrev Between : List Row
    Between = drop c.done.rows (take d.done.rows done)

    parts : take d.done.rows done ≡ Tip ++ Between
    parts =
        sym (take-append-drop c.done.rows (take d.done.rows done))
        ∙ ap (λ (rows : List Row). rows ++ Between) (take-take c.done.rows d.done.rows done order)

    outputs_parts : outputs_of (take d.done.rows done) ≡ outputs_of Tip ++ outputs_of Between
    outputs_parts = ap outputs_of parts ∙ flat_map-append (λ (r : Row). r.outputs) Tip Between

    all_parts : outputs_of done ≡ outputs_of Tip ++ (outputs_of Between ++ outputs_of (drop d.done.rows done))
    all_parts =
        ap outputs_of (sym (take-append-drop d.done.rows done))
        ∙ flat_map-append (λ (r : Row). r.outputs) (take d.done.rows done) (drop d.done.rows done)
        ∙ ap (λ (os : List Out). os ++ outputs_of (drop d.done.rows done)) outputs_parts
        ∙ append_assoc (outputs_of Tip) (outputs_of Between) (outputs_of (drop d.done.rows done))

    -- the later has no fewer outputs
    outputs_grow : c.done.outputs ≤ d.done.outputs
    outputs_grow =
        let here = earlier.outputs in
        let there = later.outputs in
        let more = ap (λ (os : List Out). length os) outputs_parts in
        let lengths = length-append (outputs_of Tip) (outputs_of Between) in
        omega arith

    -- so the earlier leads to the later, where it is at most sixteen rows on, and the outputs are kept
    leads : (first : ℕ) (outputs : List Out) → d.done.rows ≤ c.done.rows + spacing → first ≤ c.done.outputs → outputs ≡ drop first (outputs_of done)
        → Leads P E first outputs c d
    leads first outputs near start kept =
        let s : Snapshot = start_state P in
        let long : length (take d.done.rows done) ≡ d.done.rows = length-take-le d.done.rows done later.within in
        let cut : length Between ≡ length (take d.done.rows done) - c.done.rows = length-drop c.done.rows (take d.done.rows done) in
        let begins : BeginFrom P E (last_after None Tip) (state_at_end s Tip) Between =
        begin_behind P E None s Tip Between (subst (Begin P E) parts (begin_take P E None s d.done.rows done begin)) in
        let at_last : BeginFrom P E c.done.last (state_at_end s Tip) Between =
        subst (λ (o : Option Moment). BeginFrom P E o (state_at_end s Tip) Between) (sym earlier.last) begins in
        let here = earlier.outputs in
        let there = later.outputs in
        let more = ap (λ (os : List Out). length os) outputs_parts in
        let lengths = length-append (outputs_of Tip) (outputs_of Between) in
        let all = ap (λ (os : List Out). length os) all_parts in
        let all_lengths = length-append (outputs_of Tip) (outputs_of Between ++ outputs_of (drop d.done.rows done)) in
        let rest_lengths = length-append (outputs_of Between) (outputs_of (drop d.done.rows done)) in
        let kept_length = ap (λ (os : List Out). length os) kept in
        let kept_cut = length-drop first (outputs_of done) in
        let behind : drop (c.done.outputs - first) outputs ≡ outputs_of Between ++ outputs_of (drop d.done.rows done) =
        ap (drop (c.done.outputs - first)) kept ∙ drop-drop (c.done.outputs - first) first (outputs_of done)
        ∙ ap (λ (n : ℕ). drop n (outputs_of done)) {x = first + (c.done.outputs - first)} {y = c.done.outputs} (omega arith)
        ∙ ap (drop c.done.outputs) all_parts
        ∙ drop_at (outputs_of Tip) (outputs_of Between ++ outputs_of (drop d.done.rows done)) c.done.outputs (sym earlier.outputs) in
        record {
          rows = Between;
          begin = subst (λ (t : Snapshot). BeginFrom P E c.done.last t Between) (sym earlier.state) at_last;
          last = later.last ∙ ap (last_after None) parts ∙ last_append None Tip Between
              ∙ ap (λ (o : Option Moment). last_after o Between) (sym earlier.last);
          state = later.state ∙ ap (state_at_end s) parts ∙ state_append s Tip Between
              ∙ ap (λ (t : Snapshot). state_at_end t Between) (sym earlier.state);
          count = omega arith;
          few = omega arith;
          start = start;
          order = outputs_grow;
          within = omega arith;
          gives = sym (ap (take (d.done.outputs - first - (c.done.outputs - first))) behind
              ∙ take_at (outputs_of Between) (outputs_of (drop d.done.rows done)) (d.done.outputs - first - (c.done.outputs - first)) (omega arith));
        }

  -- ---- all that are set aside

  module _ (tag : Moment) where
    -- the earliest has no more outputs than any
    earliest_least : (base : ℕ) (c : Saved) (old cs : List Saved) (first : ℕ) → AreSaved base P done (c ∷ cs)
        → IfSome (newest (set_aside tag cs (c ∷ old))) (λ e. first ≡ e.outputs) → first ≤ c.done.outputs
    earliest_least base c old [] first h is = omega arith
    earliest_least base c old (d ∷ ds) first h is = elim (cases_Bool (is_after d.done.last tag)) [
      | inl early ↦ let same : first ≡ c.done.outputs = rw early at is in omega arith
      | inr late ↦
          let rest = earliest_least base d (c ∷ old) ds first h.3 (rw late at is) in
          let older = outputs_grow d c h.3.0 h.0 h.2.0 in
          omega arith
    ]

    module _ (first : ℕ) (outputs : List Out) (kept : outputs ≡ drop first (outputs_of done)) where
      -- with more in front of those that are aside
      aside_more : (base : ℕ) (c : Saved) (old cs : List Saved) → AreSaved base P done (c ∷ cs)
          → IfSome (newest (set_aside tag cs (c ∷ old))) (λ e. first ≡ e.outputs)
          → AreAside P E first outputs (c ∷ old) → AreAside P E first outputs (set_aside tag cs (c ∷ old))
      aside_more base c old [] h is aside = aside
      aside_more base c old (d ∷ ds) h is aside = elim (cases_Bool (is_after d.done.last tag)) [
        | inl early ↦ rw early aside
        | inr late ↦
            let left : IfSome (newest (set_aside tag ds (d ∷ c ∷ old))) (λ e. first ≡ e.outputs) = rw late at is in
            let start = earliest_least base d (c ∷ old) ds first h.3 left in
            rw late
            (aside_more base d (c ∷ old) ds h.3 left (h.3.0.ready, leads d c h.3.0 h.0 h.2.0 first outputs h.1 start kept, aside))
      ]

      -- where nothing was aside before
      aside_all : (base : ℕ) (cs : List Saved) → AreSaved base P done cs → IfSome (newest (set_aside tag cs [])) (λ e. first ≡ e.outputs)
          → AreAside P E first outputs (set_aside tag cs [])
      aside_all base [] h is = tt
      aside_all base (c ∷ cs) h is = elim (cases_Bool (is_after c.done.last tag)) [
        | inl early ↦ rw early tt
        | inr late ↦ rw late (aside_more base c [] cs h (rw late at is) (h.0.ready, tt, tt))
      ]

-- the earliest is not before the tag
from_more : (tag : Moment) (c : Saved) (old cs : List Saved) → is_after c.done.last tag ≡ false → IsFrom tag (set_aside tag cs (c ∷ old))
from_more tag c old [] late = late
from_more tag c old (d ∷ ds) late = elim (cases_Bool (is_after d.done.last tag)) [
  | inl early ↦ rw early late
  | inr other ↦ rw other (from_more tag d (c ∷ old) ds other)
]

from_all : (tag : Moment) (cs : List Saved) → IsFrom tag (set_aside tag cs [])
from_all tag [] = tt
from_all tag (c ∷ cs) = elim (cases_Bool (is_after c.done.last tag)) [
  | inl early ↦ rw early tt
  | inr late ↦ rw late (from_more tag c [] cs late)
]

-- so it is with what a rollback took, with the outputs from the earliest on
pub taken_aside : (base : ℕ) (P : Program) (E : List Event) (tag : Moment) (done : List Row) (saves : List Saved) (outputs : List Out) (a : SetAside)
    → Begin P E done → outputs ≡ outputs_of done → AreSaved base P done saves
    → (a.history.saves ≡ []) ⊎ KeepsFrom (set_aside tag saves []) outputs a
    → AreAside P E a.first a.outputs a.history.saves × IsFrom tag a.history.saves
taken_aside base P E tag done saves outputs a begin all h (inl none) = (
  subst (AreAside P E a.first a.outputs) (sym none) tt,
  subst (IsFrom tag) (sym none) tt,
)
taken_aside base P E tag done saves outputs a begin all h (inr keeps) = (
  subst (AreAside P E a.first a.outputs) (sym keeps.saves)
      (aside_all P E done begin tag a.first a.outputs (keeps.outputs ∙ ap (drop a.first) all) base saves h keeps.first),
  subst (IsFrom tag) (sym keeps.saves) (from_all tag saves),
)

-- ---- what is left where those before a tag are let go

pub aside_since : (P : Program) (E : List Event) (first : ℕ) (outputs : List Out) (tag : Moment) (saves : List Saved)
    → AreAside P E first outputs saves → AreAside P E first outputs (since tag saves)
aside_since P E first outputs tag [] h = tt
aside_since P E first outputs tag (c ∷ cs) h = elim (cases_Bool (is_after c.done.last tag)) [
  | inl early ↦ rw early (aside_since P E first outputs tag cs h.2)
  | inr late ↦ rw late h
]

pub from_since : (tag : Moment) (saves : List Saved) → IsFrom tag (since tag saves)
from_since tag [] = tt
from_since tag (c ∷ cs) = elim (cases_Bool (is_after c.done.last tag)) [
  | inl early ↦ rw early (from_since tag cs)
  | inr late ↦ rw late late
]
