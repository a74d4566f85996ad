-- Along changes all rows before a tag stay done, but for the slack; and where the live events stay, all rows do.
use Rattle.std.proofs.Common.{◌≡◌, ℕ, ◌+◌, ◌≤◌, true, false, not, length, List, [], ◌∷◌, ap, sym, subst, ◌∙◌, refl, arith, inl, inr, cond, None, ◌++◌}
use Rattle.std.proofs.Math.Dec.{leb}
use Rattle.std.proofs.lemmas.Bool.{cases_Bool, leb-true, leb-false}
use Rattle.std.proofs.lemmas.List.{append-nil, length-append}
use Rattle.std.proofs.lemmas.List.Sums.{sum_by-cons, count_by-le-length}
use Rattle.warp_tag.specs.Lists.{StartsWith}
use Rattle.warp_tag.specs.Moment.{Moment, is_before}
use Rattle.warp_tag.specs.Table.{Event, live}
use Rattle.warp_tag.proofs.Tags.{same_moment}
use Rattle.warp_step.specs.Program.{Program}
use Rattle.warp_step.specs.Run.{Row, Run, is_after}
use Rattle.warp_step.proofs.TraceExists.{exists}
use Rattle.warp_step.proofs.TraceLemmas.{one_rest}
use Rattle.warp_step.specs.Snapshot.{start_state}
use Rattle.warp_line.specs.Timeline.{Standing, IsDone, KeepsDone, Settles, rows_before, lesser}
use Rattle.warp_line.specs.Begin.{last_after}
use Rattle.warp_line.specs.Rework.{Change, Follow, AreAfter, AreNotBefore, ChangeNothing, TicksAtMost, rework}

-- what settling says of its ticks
pub settling_ticks : {T : Type 0} (stands_for : T → Standing → Type 0) (value : T) (m : Standing) (ticks : ℕ) (done : List Row)
    → Settles stands_for value m ticks done → TicksAtMost m ticks
settling_ticks stands_for value m ticks done h = h.bound

-- each row is before the tag or not
before_or_not : (tag : Moment) (rows : List Row) → length rows ≡ rows_before tag rows + rework tag rows
before_or_not tag [] = refl
before_or_not tag (row ∷ rows) =
    let rest : length rows ≡ rows_before tag rows + rework tag rows = before_or_not tag rows in
    let early = sum_by-cons (λ (r : Row). cond (is_before r.tag tag) 1 0) row rows in
    let late = sum_by-cons (λ (r : Row). cond (not (is_before r.tag tag)) 1 0) row rows in
    elim (cases_Bool (is_before row.tag tag)) [
      | inl here ↦ grind (arith, here, early, late, rest)
      | inr past ↦ grind (arith, past, early, late, rest)
    ]

-- of a tag and one that is not before it, that one is the lesser
lesser_is : (t tag : Moment) → is_before t tag ≡ false → lesser t tag ≡ tag
lesser_is t tag h = elim (cases_Bool (is_before tag t)) [
  | inl later ↦ rw later refl
  | inr same ↦ rw same (same_moment t tag h same)
]

-- what holds of two numbers wherever a premise does, and the premise is not false, holds
at_most : {A : Type 0} (a b : ℕ) → ((A → ⊥) → ⊥) → (A → a ≤ b) → a ≤ b
at_most a b so given = elim (cases_Bool (leb a b)) [
  | inl h ↦ leb-true a b h
  | inr h ↦ let over = leb-false a b h in absurd (so (λ x. let le = given x in omega arith))
]

-- all rows before the tag are done, but for so many
abbrev Reached : ℕ → Moment → Standing → Type 0
Reached slack tag m = (trace : List Row) → Run m.program (live m.table) trace → rows_before tag trace ≤ length m.done + slack

-- no row is left to do
abbrev NoneLeft : Standing → Type 0
NoneLeft m = (trace : List Row) → Run m.program (live m.table) trace → length trace ≤ length m.done

-- where all rows are done, none is left
none_left : (m : Standing) → IsDone m → NoneLeft m
none_left m h trace run =
    let same : trace ≡ m.done = one_rest m.program (live m.table) None (start_state m.program) trace m.done run h in
    let lengths : length trace ≡ length m.done = ap length same in
    omega arith

-- and so none before any tag
all_reached : (slack : ℕ) (tag : Moment) (m : Standing) → NoneLeft m → Reached slack tag m
all_reached slack tag m h trace run =
    let all : length trace ≤ length m.done = h trace run in
    let some = count_by-le-length (λ (row : Row). is_before row.tag tag) trace in
    omega arith

-- a run of a standing is one of each with the same program and live events
same_run : (m n : Standing) (trace : List Row) → n.program ≡ m.program → live n.table ≡ live m.table → Run n.program (live n.table) trace
    → Run m.program (live m.table) trace
same_run m n trace programs lives run =
    subst (λ (P : Program). Run P (live m.table) trace) programs (subst (λ (E : List Event). Run n.program E trace) lives run)

-- where the done rows are the same, as many are done
all_kept : (m n : Standing) → n.done ≡ m.done → length m.done ≤ length n.done
all_kept m n same = let lengths : length n.done ≡ length m.done = ap (λ (rows : List Row). length rows) same in omega arith

-- where the live events stay, no more is left
same_reached : (slack : ℕ) (tag : Moment) (m n : Standing) → n.program ≡ m.program → live n.table ≡ live m.table → length m.done ≤ length n.done
    → Reached slack tag m → Reached slack tag n
same_reached slack tag m n programs lives kept h trace run =
    let before : rows_before tag trace ≤ length m.done + slack = h trace (same_run m n trace programs lives run) in
    omega arith

same_left : (m n : Standing) → n.program ≡ m.program → live n.table ≡ live m.table → length m.done ≤ length n.done → NoneLeft m → NoneLeft n
same_left m n programs lives kept h trace run =
    let before : length trace ≤ length m.done = h trace (same_run m n trace programs lives run) in
    omega arith

-- a change at a tag that is not before this one leaves all rows before this one done, but for so many
later_reached : (slack drops : ℕ) (t tag : Moment) (m n : Standing) → KeepsDone slack drops t m n → is_before t tag ≡ false → Reached slack tag m
    → Reached slack tag n
later_reached slack drops t tag m n kept late h trace run =
    let before = exists m.program (live m.table) in
    let early : rows_before tag before.0 ≤ length m.done + slack = h before.0 before.1 in
    let next : rows_before (lesser t tag) trace ≤ length n.done + slack = kept.front before.0 trace before.1 run tag early in
    subst (λ (u : Moment). rows_before u trace ≤ length n.done + slack) (lesser_is t tag late) next

-- so does each change that is not before it if it changes the live events
change_reached : (slack drops : ℕ) (tag : Moment) (m : Standing) (c : Change) → c.after.program ≡ m.program → KeepsDone slack drops c.tag m c.after
    → (¬ live c.after.table ≡ live m.table → is_before c.tag tag ≡ false) → Reached slack tag m → Reached slack tag c.after
change_reached slack drops tag m c programs kept late h = elim (cases_Bool (is_before c.tag tag)) [
  | inl early ↦ λ trace run.
      at_most (rows_before tag trace) (length c.after.done + slack)
      (λ differs. let no : false ≡ true = sym (late differs) ∙ early in cc)
      (λ lives. same_reached slack tag m c.after programs lives (all_kept m c.after (kept.unchanged lives)) h trace run)
  | inr so ↦ later_reached slack drops c.tag tag m c.after kept so h
]

-- and so do all of them
changes_reached : (slack drops : ℕ) (tag : Moment) (m n : Standing) (cs : List Change) → Follow slack drops m cs n → AreNotBefore tag m cs
    → Reached slack tag m → Reached slack tag n
changes_reached slack drops tag m n [] follow late h = subst (λ (x : Standing). Reached slack tag x) (sym follow) h
changes_reached slack drops tag m n (c ∷ cs) follow late h =
    changes_reached slack drops tag c.after n cs follow.2 late.1 (change_reached slack drops tag m c follow.0 follow.1 late.0 h)

changes_left : (slack drops : ℕ) (m n : Standing) (cs : List Change) → Follow slack drops m cs n → ChangeNothing m cs → NoneLeft m → NoneLeft n
changes_left slack drops m n [] follow same h = subst NoneLeft (sym follow) h
changes_left slack drops m n (c ∷ cs) follow same h =
    changes_left slack drops c.after n cs follow.2 same.1 (same_left m c.after follow.0 same.0 (all_kept m c.after (follow.1.unchanged same.0)) h)

-- so the ticks are few
pub few_ticks : (slack drops : ℕ) (m n : Standing) (cs : List Change) (tag : Moment) (ticks : ℕ) (trace : List Row) → IsDone m → Follow slack drops m cs n
    → AreNotBefore tag m cs → TicksAtMost n ticks → Run n.program (live n.table) trace → ticks ≤ rework tag trace + slack
few_ticks slack drops m n cs tag ticks trace whole follow late ticked run =
    let reached : Reached slack tag n = changes_reached slack drops tag m n cs follow late (all_reached slack tag m (none_left m whole)) in
    let early : rows_before tag trace ≤ length n.done + slack = reached trace run in
    let all = before_or_not tag trace in
    let most : ticks + length n.done ≤ length trace = ticked trace run in
    omega arith

pub no_ticks : (slack drops : ℕ) (m n : Standing) (cs : List Change) (ticks : ℕ) → IsDone m → Follow slack drops m cs n → ChangeNothing m cs
    → TicksAtMost n ticks → ticks ≡ 0
no_ticks slack drops m n cs ticks whole follow same ticked =
    let run = exists n.program (live n.table) in
    let none : length run.0 ≤ length n.done = changes_left slack drops m n cs follow same (none_left m whole) run.0 run.1 in
    let most : ticks + length n.done ≤ length run.0 = ticked run.0 run.1 in
    omega arith

-- a front that is as long as the whole list is the whole list
whole_front : (whole front : List Row) → StartsWith whole front → length whole ≤ length front → front ≡ whole
whole_front whole front begins long = by begins.0 begins.1
  where
    by : (rest : List Row) → whole ≡ front ++ rest → front ≡ whole
    by [] is = sym (append-nil front) ∙ sym is
    by (row ∷ rows) is =
        let lengths : length whole ≡ length front + length (row ∷ rows) = ap (λ (l : List Row). length l) is ∙ length-append front (row ∷ rows) in
        let more : 1 ≤ length (row ∷ rows) = omega arith in
        absurd (omega arith)

-- where a change of the live events is after the last done row, and no row is dropped there, what was done stays done
after_kept : (slack : ℕ) (m : Standing) (c : Change) → KeepsDone slack 0 c.tag m c.after
    → (¬ live c.after.table ≡ live m.table → is_after (last_after None m.done) c.tag ≡ true) → c.after.done ≡ m.done
after_kept slack m c kept late =
    whole_front m.done c.after.done kept.idle (elim (cases_Bool (is_after (last_after None m.done) c.tag)) [
      | inl ahead ↦ let all = kept.ahead ahead in omega arith
      | inr early ↦ at_most (length m.done) (length c.after.done) (λ differs. let no : false ≡ true = sym early ∙ late differs in cc)
          (λ lives. all_kept m c.after (kept.unchanged lives))
    ])

-- and so along changes
all_stay : (slack : ℕ) (m n : Standing) (cs : List Change) → Follow slack 0 m cs n → AreAfter (last_after None m.done) m cs → n.done ≡ m.done
all_stay slack m n [] follow late = ap (λ (x : Standing). x.done) follow
all_stay slack m n (c ∷ cs) follow late =
    let same : c.after.done ≡ m.done = after_kept slack m c follow.1 late.0 in
    let later = subst (λ (rows : List Row). AreAfter (last_after None rows) c.after cs) (sym same) late.1 in
    all_stay slack c.after n cs follow.2 later ∙ same

-- then no row that was done is executed again
pub new_ticks : (slack : ℕ) (m n : Standing) (cs : List Change) (ticks : ℕ) (trace : List Row) → Follow slack 0 m cs n
    → AreAfter (last_after None m.done) m cs → TicksAtMost n ticks → Run n.program (live n.table) trace → ticks + length m.done ≤ length trace
new_ticks slack m n cs ticks trace follow late ticked run =
    subst (λ (rows : List Row). ticks + length rows ≤ length trace) (all_stay slack m n cs follow late) (ticked trace run)
