-- What a timeline stands for, and what its calls do to that.
use Rattle.std.specs.Prelude.{◌≡◌, ℕ, ◌+◌, ◌≤◌, ◌⊎◌, Bool, true, not, IsTrue, Option, None, List, [], ◌∷◌, length}
use Rattle.std.specs.Prelude.{count_by, if◌then◌else◌}
use Rattle.warp_tag.specs.Lists.{StartsWith}
use Rattle.warp_tag.specs.Moment.{Moment, is_before}
use Rattle.warp_tag.specs.Table.{live}
use Rattle.warp_tag.specs.declared.entry.Entry.{Entry}
use Rattle.warp_step.specs.Program.{Program}
use Rattle.warp_step.specs.Run.{Row, Run, is_after}
use Rattle.warp_line.specs.Begin.{last_after}

-- a program, a table of names, and the rows of the run over its live events that are done: a front of the trace
pub record Standing : Type 0 where
  pub program : Program
  pub table : List Entry
  pub done : List Row

-- all rows of the run are done
abbrev pub IsDone : Standing → Type 0
IsDone m = Run m.program (live m.table) m.done

-- the done rows begin the run
abbrev pub IsFront : Standing → Type 0
IsFront m = (trace : List Row) → Run m.program (live m.table) trace → StartsWith trace m.done

-- how many rows stand before a tag
abbrev pub rows_before : Moment → List Row → ℕ
rows_before u rows = count_by (λ row. is_before row.tag u) rows

-- the lesser of two tags
abbrev pub lesser : Moment → Moment → Moment
lesser t u = if is_before u t then u else t

-- What a change at a tag leaves done: if all rows before u were done but for at most so many, so are then all rows
-- before the lesser of u and that tag; where the tag is after the last done row, all of these, but for at most so many
-- that it drops; where the live events stay, just what was done; and never more than a front of what was done.
pub record KeepsDone (slack drops : ℕ) (tag : Moment) (old new : Standing) : Type 0 where
  pub front : (before after : List Row) → Run old.program (live old.table) before
      → Run new.program (live new.table) after → (u : Moment) → rows_before u before ≤ length old.done + slack
      → rows_before (lesser tag u) after ≤ length new.done + slack
  pub ahead : is_after (last_after None old.done) tag ≡ true → length old.done ≤ length new.done + drops
  pub unchanged : live new.table ≡ live old.table → new.done ≡ old.done
  pub idle : StartsWith old.done new.done

-- Some such rows are done now of the standing with this table, and the value stands for that.
abbrev pub NowStands : {T : Type 0} → (T → Standing → Type 0) → ℕ → ℕ → Moment → T → Standing → List Entry → Type 0
NowStands stands_for slack drops tag value old table =
    (done : List Row) × stands_for value (record old { table = table; done = done })
    × KeepsDone slack drops tag old (record old { table = table; done = done })

-- What settling does, whether it comes to the end or stops for memory: what was done stays done, and there is at most
-- one tick for each row of the trace that was not done.
pub record Settles {T : Type 0} (stands_for : T → Standing → Type 0) (value : T) (old : Standing) (ticks : ℕ)
    (done : List Row) : Type 0 where
  pub stands : stands_for value (record old { done = done })
  pub kept : length old.done ≤ length done
  pub bound : (trace : List Row) → Run old.program (live old.table) trace → ticks + length old.done ≤ length trace

-- no list has more room than it had
abbrev pub TakesNoRoom : List ℕ → List ℕ → Type 0
TakesNoRoom [] [] = Unit {0}
TakesNoRoom [] (new ∷ news) = ⊥
TakesNoRoom (old ∷ olds) [] = ⊥
TakesNoRoom (old ∷ olds) (new ∷ news) = (new ≤ old) × TakesNoRoom olds news

-- a tag is behind a floor, the last tag through which names were let go of: it is not after it
abbrev pub is_behind : Option Moment → Moment → Bool
is_behind floor tag = not (is_after floor tag)

-- The floor stays or comes up: what was behind is behind, and what came behind is before the tag.
pub record MovesFloor (below : Moment) (old new : Option Moment) : Type 0 where
  pub kept : (t : Moment) → IsTrue (is_behind old t) → IsTrue (is_behind new t)
  pub bound : (t : Moment) → IsTrue (is_behind new t) → IsTrue (is_behind old t) ⊎ IsTrue (is_before t below)

-- how many rows stand behind a floor
abbrev pub rows_behind : Option Moment → List Row → ℕ
rows_behind floor rows = count_by (λ row. is_behind floor row.tag) rows
