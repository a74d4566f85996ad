-- Rework: how many rows a run has at tags not before one, and what changes between two runs leave done.
use Rattle.std.specs.Prelude.{◌≡◌, ℕ, ◌+◌, ◌≤◌, true, false, not, Option, List, [], ◌∷◌, length, count_by}
use Rattle.warp_tag.specs.Moment.{Moment, is_before}
use Rattle.warp_tag.specs.Table.{live}
use Rattle.warp_step.specs.Run.{Row, Run, is_after}
use Rattle.warp_line.specs.Timeline.{Standing, KeepsDone}

-- how many rows at tags not before this one the trace has
abbrev pub rework : Moment → List Row → ℕ
rework tag trace = count_by (λ row. not (is_before row.tag tag)) trace

-- a change at a tag, and what the timeline stood for after it
pub record Change : Type 0 where
  pub tag : Moment
  pub after : Standing

-- the changes lead from a standing to a standing: each leaves the program, and leaves done what `KeepsDone` says
abbrev pub Follow : ℕ → ℕ → Standing → List Change → Standing → Type 0
Follow slack drops m [] n = n ≡ m
Follow slack drops m (c ∷ cs) n =
    (c.after.program ≡ m.program) × KeepsDone slack drops c.tag m c.after × Follow slack drops c.after cs n

-- each that changed the live events is at a tag that is not before this one
abbrev pub AreNotBefore : Moment → Standing → List Change → Type 0
AreNotBefore tag m [] = Unit {0}
AreNotBefore tag m (c ∷ cs) =
    (¬ live c.after.table ≡ live m.table → is_before c.tag tag ≡ false) × AreNotBefore tag c.after cs

-- each that changed the live events is at a tag after the last one of a run, if there is one
abbrev pub AreAfter : Option Moment → Standing → List Change → Type 0
AreAfter last m [] = Unit {0}
AreAfter last m (c ∷ cs) =
    (¬ live c.after.table ≡ live m.table → is_after last c.tag ≡ true) × AreAfter last c.after cs

-- none changed the live events
abbrev pub ChangeNothing : Standing → List Change → Type 0
ChangeNothing m [] = Unit {0}
ChangeNothing m (c ∷ cs) = (live c.after.table ≡ live m.table) × ChangeNothing c.after cs

-- there is at most one tick for each row of the trace that was not done: the clause `bound` of `Settles`
abbrev pub TicksAtMost : Standing → ℕ → Type 0
TicksAtMost m ticks = (trace : List Row) → Run m.program (live m.table) trace → ticks + length m.done ≤ length trace
