-- What a replica's timeline stands for once a record came in.
use Rattle.std.proofs.Common.{◌≡◌, ℕ, ◌≤◌, cond, List, [], ◌∷◌, ◌++◌, None, refl, sym, ap, subst, ◌∙◌, arith}
use Rattle.std.proofs.lemmas.List.{append-nil}
use Rattle.std.proofs.lemmas.Bool.Decides.{nat_tests}
use Rattle.std.proofs.lemmas.List.Sums.{sum_by-le-sum_by}
use Rattle.warp_tag.specs.Moment.{Moment, is_before}
use Rattle.warp_tag.specs.Table.{live}
use Rattle.warp_tag.specs.declared.entry.Entry.{Entry}
use Rattle.warp_step.specs.Program.{Program}
use Rattle.warp_step.specs.Snapshot.{start_state}
use Rattle.warp_step.specs.Run.{Row}
use Rattle.warp_step.proofs.TraceLemmas.{one_rest}
use Rattle.warp_record.specs.declared.record.Record.{Record}
use Rattle.warp_line.specs.Timeline.{Standing, KeepsDone, NowStands, lesser, rows_before}
use Rattle.warp_table.specs.LogNames.{table_of, with_record}
use Rattle.warp_table.proofs.Sizes.{table_more}
use Rattle.warp_replica.specs.Gives.{tag_of}
use Rattle.warp_replica.specs.Replica.{ReplicaState, standing_of, Stands}

-- what is before the lesser of two tags is before each
before_lesser : (row : Row) (tag u : Moment)
    → cond (is_before row.tag (lesser tag u)) 1 0 ≤ cond (is_before row.tag u) 1 0
before_lesser row tag u = grind (arith, nat_tests)

-- where nothing changed, what was done stays done
nothing_changed : (slack drops : ℕ) (tag : Moment) (m : Standing) → KeepsDone slack drops tag m m
nothing_changed slack drops tag m = record {
  front = λ before after rb ra u enough.
      let same : after ≡ before = one_rest m.program (live m.table) None (start_state m.program) after before ra rb in
      let fewer = sum_by-le-sum_by (λ (row : Row). cond (is_before row.tag (lesser tag u)) 1 0)
      (λ (row : Row). cond (is_before row.tag u) 1 0) before
      (λ row. before_lesser row tag u) in
      let here : rows_before (lesser tag u) after ≡ rows_before (lesser tag u) before =
      ap (rows_before (lesser tag u)) same in
      omega arith;
  ahead = λ later. omega arith;
  unchanged = λ same. refl;
  idle = ([], sym (append-nil m.done));
}

-- a timeline that took a record which changes no name still stands for what it stood for
pub no_name : {T : Type 0} (stands_for : T → Standing → Type 0) (slack drops : ℕ) (tag : Moment) (value : T)
    (m : Standing) (table : List Entry)
    → table ≡ m.table → stands_for value m → NowStands stands_for slack drops tag value m table
no_name stands_for slack drops tag value m table same stands = (
  m.done,
  subst (λ (t : List Entry). stands_for value (record m { table = t })) (sym same) stands,
  subst (λ (t : List Entry). KeepsDone slack drops tag m (record m { table = t })) (sym same)
      (nothing_changed slack drops tag m),
)

-- a timeline that took the record stands for the records with it, with what was done before its tag
pub with_more : {T : Type 0} (stands_for : T → Standing → Type 0) (slack drops : ℕ) (said : Record)
    (old new : ReplicaState T) (done : List Row)
    → new.program ≡ old.program → new.records ≡ old.records ++ said ∷ []
    → NowStands stands_for slack drops (tag_of said) new.timeline (standing_of old done)
    (with_record (table_of old.records) said)
    → (after : List Row) × Stands stands_for new after
    × KeepsDone slack drops (tag_of said) (standing_of old done) (standing_of new after)
with_more stands_for slack drops said old new done same more entered =
    let after = entered.0 in
    let now : standing_of new after
    ≡ record { program = old.program; table = with_record (table_of old.records) said; done = after } =
    ap (λ (P : Program). record { program = P; table = table_of new.records; done = after }) same
    ∙ ap (λ t. record { program = old.program; table = t; done = after })
    (ap table_of more ∙ table_more old.records said) in (
      after,
      subst (stands_for new.timeline) (sym now) entered.1,
      subst (KeepsDone slack drops (tag_of said) (standing_of old done)) (sym now) entered.2,
    )
