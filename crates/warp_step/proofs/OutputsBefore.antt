-- The outputs of a run come in the order of their tags: those before a tag are a front, that of the rows before it.
use Rattle.std.proofs.Common.{◌≡◌, ℕ, ◌≤◌, ◌+◌, ℤ, Bool, true, false, List, [], ◌∷◌, ◌++◌, length, take, ap, sym, ◌∙◌, refl, subst, inl, inr, Option, Some, None, arith}
use Rattle.std.specs.List.{AllByRecursion}
use Rattle.std.specs.List.Sorted.{IsPartitionedBy, IsPartitionPoint}
use Rattle.std.proofs.lemmas.Bool.{cases_Bool}
use Rattle.std.proofs.lemmas.Bool.Decides.{nat_tests}
use Rattle.std.proofs.lemmas.List.Elements.{filter-append}
use Rattle.warp_tag.specs.Lists.{StartsWith}
use Rattle.warp_tag.specs.Moment.{Moment, is_before}
use Rattle.warp_tag.specs.Table.{Event}
use Rattle.warp_tag.proofs.Lists.{All-append, All-weaker, filter-here, filter-past}
use Rattle.warp_body.specs.Presence.{Presence, present_at}
use Rattle.warp_body.specs.declared.place.Target.TheVariants as to
use Rattle.warp_step.specs.Program.{Program}
use Rattle.warp_step.specs.Snapshot.{Snapshot, start_state}
use Rattle.warp_step.specs.Step.{Step, with_output, outputs_from, reacted}
use Rattle.warp_step.specs.Run.{Row, Run, RunFrom, outputs_of, rows_until, outputs_until, given_at}
use Rattle.warp_step.specs.declared.given_input.Given.{Given}
use Rattle.warp_tag.specs.declared.out.Out.{Out}
use Rattle.warp_step.proofs.PartedLists.{IsParted, filter_all, filter_none, all_behind, more_in_front, begins_kept, begins_wider, is_partitioned, point_is_kept, take_kept, take_point}
use Rattle.warp_step.proofs.RowsBefore.{none_early}

-- each output is at the tag
abbrev pub AreAt : Moment → List Out → Type 0
AreAt t outs = AllByRecursion (λ out. out.tag ≡ t) outs

-- the outputs of a step are at its tag
one_at : (number : ℕ) (t : Moment) (v : Option ℤ) (outs : List Out) → AreAt t outs → AreAt t (with_output number t v outs)
one_at number t None outs a = a
one_at number t (Some v) outs a = (refl, a)

all_at_tag : (number : ℕ) (t : Moment) (present : Presence) (ports : List ℕ) → AreAt t (outputs_from number t present ports)
all_at_tag number t present [] = tt
all_at_tag number t present (port ∷ ports) =
    one_at number t (present_at present (to.Port port)) (outputs_from (number + 1) t present ports) (all_at_tag (number + 1) t present ports)

pub step_outputs : (P : Program) (s : Snapshot) (t : Moment) (X : List Given) (new : Snapshot) (outs : List Out) → Step P s t X new outs → AreAt t outs
step_outputs P s t X new outs step = subst (AreAt t) (sym step.outputs) (all_at_tag 0 t (reacted P s t X).present P.outputs)

-- so those of each row of a run are at the row's
abbrev pub AreTagged : List Row → Type 0
AreTagged rows = AllByRecursion (λ row. AreAt row.tag row.outputs) rows

pub run_tagged : (P : Program) (E : List Event) (last : Option Moment) (s : Snapshot) (rows : List Row) → RunFrom P E last s rows → AreTagged rows
run_tagged P E last s [] run = tt
run_tagged P E last s (row ∷ rows) run =
    (step_outputs P s row.tag (given_at row.tag E) row.state row.outputs run.1, run_tagged P E (Some row.tag) row.state rows run.2)

module _ (end : Moment) where
  -- the outputs of a row before the end are before it, and those of a row that is not are not
  tested : (b : Bool) (t : Moment) (outs : List Out) → is_before t end ≡ b → AreAt t outs → AllByRecursion (λ out. is_before out.tag end ≡ b) outs
  tested b t outs is at = All-weaker (λ out. out.tag ≡ t) (λ out. is_before out.tag end ≡ b) (λ out same. ap (λ u. is_before u end) same ∙ is) outs at

  all_fail : (rows : List Row) → AreTagged rows → AllByRecursion (λ row. is_before row.tag end ≡ false) rows
      → AllByRecursion (λ out. is_before out.tag end ≡ false) (outputs_of rows)
  all_fail [] tagged past = tt
  all_fail (row ∷ rows) tagged past =
      All-append (λ out. is_before out.tag end ≡ false) row.outputs (outputs_of rows) (tested false row.tag row.outputs past.0 tagged.0)
      (all_fail rows tagged.1 past.1)

  -- those before the end are those of the rows before it
  of_rows : (rows : List Row) → AreTagged rows → outputs_until end (outputs_of rows) ≡ outputs_of (rows_until end rows)
  of_rows [] tagged = refl
  of_rows (row ∷ rows) tagged = elim (cases_Bool (is_before row.tag end)) [
    | inl early ↦
        filter-append (λ out. is_before out.tag end) row.outputs (outputs_of rows)
        ∙ ap (λ outs. outs ++ outputs_until end (outputs_of rows)) (filter_all (λ out. is_before out.tag end) row.outputs (tested true row.tag row.outputs early tagged.0))
        ∙ ap (λ outs. row.outputs ++ outs) (of_rows rows tagged.1)
        ∙ ap outputs_of (sym (filter-here (λ r. is_before r.tag end) row rows early))
    | inr past ↦
        filter-append (λ out. is_before out.tag end) row.outputs (outputs_of rows)
        ∙ ap (λ outs. outs ++ outputs_until end (outputs_of rows)) (filter_none (λ out. is_before out.tag end) row.outputs (tested false row.tag row.outputs past tagged.0))
        ∙ of_rows rows tagged.1
        ∙ ap outputs_of (sym (filter-past (λ r. is_before r.tag end) row rows past))
  ]

  -- and the others stand behind them
  parted_from : (P : Program) (E : List Event) (last : Option Moment) (s : Snapshot) (rows : List Row) → RunFrom P E last s rows
      → IsParted (λ out. is_before out.tag end) (outputs_of rows)
  parted_from P E last s [] run = all_behind (λ out. is_before out.tag end) [] tt
  parted_from P E last s (row ∷ rows) run = elim (cases_Bool (is_before row.tag end)) [
    | inl early ↦
        let tagged = step_outputs P s row.tag (given_at row.tag E) row.state row.outputs run.1 in
        more_in_front (λ out. is_before out.tag end) row.outputs (outputs_of rows) (tested true row.tag row.outputs early tagged)
        (parted_from P E (Some row.tag) row.state rows run.2)
    | inr past ↦
        let tagged = run_tagged P E last s (row ∷ rows) run in
        let rest = none_early end P E row.tag row.state rows past run.2 in
        all_behind (λ out. is_before out.tag end) (outputs_of (row ∷ rows)) (all_fail (row ∷ rows) tagged (past, rest))
  ]

  -- the outputs of a run are parted by whether they are before the end
  pub outputs_parted : (P : Program) (E : List Event) (trace : List Row) → Run P E trace → IsParted (λ out. is_before out.tag end) (outputs_of trace)
  outputs_parted P E trace run = parted_from P E None (start_state P) trace run

-- what is before a tag is before one that is not before it
still_before : (t end later : Moment) → is_before later end ≡ false → is_before t end ≡ true → is_before t later ≡ true
still_before t end later h k = grind (arith, nat_tests)

-- the outputs before a tag are those of the rows before it
pub early_outputs : (P : Program) (E : List Event) (trace : List Row) (end : Moment) → Run P E trace
    → outputs_until end (outputs_of trace) ≡ outputs_of (rows_until end trace)
early_outputs P E trace end run = of_rows end trace (run_tagged P E None (start_state P) trace run)

-- all outputs begin with them, and so do those before a tag that is not earlier
pub whole_begins : (P : Program) (E : List Event) (trace : List Row) (end : Moment) → Run P E trace
    → StartsWith (outputs_of trace) (outputs_until end (outputs_of trace))
whole_begins P E trace end run = begins_kept (λ out. is_before out.tag end) (outputs_of trace) (outputs_parted end P E trace run)

pub later_begins : (P : Program) (E : List Event) (trace : List Row) (end later : Moment) → Run P E trace → is_before later end ≡ false
    → StartsWith (outputs_until later (outputs_of trace)) (outputs_until end (outputs_of trace))
later_begins P E trace end later run order =
    begins_wider (λ out. is_before out.tag end) (λ out. is_before out.tag later) (outputs_of trace)
    (λ out h. still_before out.tag end later order h) (outputs_parted end P E trace run)

-- they are so many from the front
pub front_taken : (P : Program) (E : List Event) (trace : List Row) (end : Moment) → Run P E trace
    → outputs_until end (outputs_of trace) ≡ take (length (outputs_until end (outputs_of trace))) (outputs_of trace)
front_taken P E trace end run = take_kept (λ out. is_before out.tag end) (outputs_of trace) (outputs_parted end P E trace run)

-- For a binary search over a list that is these outputs: the test is true for a front and false behind it ..
pub outputs_partitioned : (P : Program) (E : List Event) (trace : List Row) (end : Moment) (outs : List Out) → Run P E trace → outs ≡ outputs_of trace
    → IsPartitionedBy (λ out. is_before out.tag end) outs
outputs_partitioned P E trace end outs run is =
    subst (IsPartitionedBy (λ out. is_before out.tag end)) (sym is)
    (is_partitioned (λ out. is_before out.tag end) (outputs_of trace) (outputs_parted end P E trace run))

-- .. and the point that it finds is how many are before the tag, which are those in front of it
pub outputs_point : (P : Program) (E : List Event) (trace : List Row) (end : Moment) (outs : List Out) (n : ℕ) → Run P E trace → outs ≡ outputs_of trace
    → n ≤ length outs → IsPartitionPoint (λ out. is_before out.tag end ≡ true) (λ out. is_before out.tag end ≡ false) outs n
    → (n ≡ length (outputs_until end outs)) × (take n outs ≡ outputs_until end outs)
outputs_point P E trace end outs n run is within point =
    let parted = subst (IsParted (λ out. is_before out.tag end)) (sym is) (outputs_parted end P E trace run) in
    (point_is_kept (λ out. is_before out.tag end) outs n parted within point, take_point (λ out. is_before out.tag end) outs n parted within point)
