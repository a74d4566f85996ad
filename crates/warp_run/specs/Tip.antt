-- The tip of a run: what is executed of it.
use Rattle.std.specs.Prelude.{◌≡◌, ℕ, ◌+◌, ◌≤◌, ◌⊎◌, true, List, [], ◌∷◌, ◌++◌, length, take, None, vec_len}
use Rattle.std.specs.Prelude.{vec_capacity}
use Rattle.std.specs.List.{AllByRecursion}
use Rattle.warp_tag.specs.Limits.{most_names}
use Rattle.warp_tag.specs.Moment.{Moment}
use Rattle.warp_tag.specs.Table.{Event}
use Rattle.warp_step.specs.Program.{Program, top_of}
use Rattle.warp_step.specs.Snapshot.{start_state}
use Rattle.warp_step.specs.Step.{AreInputs}
use Rattle.warp_step.specs.Scratch.{IsRoomOf}
use Rattle.warp_step.specs.Run.{Row, Run, is_after, state_at_end, outputs_of}
use Rattle.warp_step.specs.declared.given_input.Given.{Given}
use Rattle.warp_line.specs.Timeline.{rows_before}
use Rattle.warp_line.specs.Begin.{Begin, last_after}
use Rattle.warp_run.specs.Aside.{AreAside, IsFrom, IsSameAside}
use Rattle.warp_run.specs.History.{IsReady, Saved, reach, spacing}
use Rattle.warp_run.specs.declared.tip.Tip.{Tip}

-- a checkpoint: the state after the first so many rows, and how many outputs they have
pub record IsSaved (P : Program) (rows : List Row) (c : Saved) : Type 0 where
  pub within : c.done.rows ≤ length rows
  pub last : c.done.last ≡ last_after None (take c.done.rows rows)
  pub state : c.state ≡ state_at_end (start_state P) (take c.done.rows rows)
  pub outputs : c.done.outputs ≡ length (outputs_of (take c.done.rows rows))
  pub ready : IsReady P c.done.last c.state

-- the newest first, each at most sixteen rows after the one before it, the oldest after no more rows than the base's
abbrev pub AreSaved : ℕ → Program → List Row → List Saved → Type 0
AreSaved base P rows [] = Unit {0}
AreSaved base P rows (c ∷ cs) =
    IsSaved P rows c × (c.done.rows ≤ reach base cs) × AllByRecursion (λ d. d.done.rows ≤ c.done.rows) cs
    × AreSaved base P rows cs

-- What is executed are these rows, which begin the run: the state is that after them, the outputs are theirs, and at
-- most sixteen are after the newest checkpoint, also where the next is made as late as it is due; no checkpoint is
-- before the base, so many of the rows, of which the last is at the floor; what is set aside may be gone on over where
-- the run meets it.
pub record HasExecuted (P : Program) (E : List Event) (x : Tip) (done : List Row) : Type 0 where
  pub begin : Begin P E done
  pub rows : x.rows ≡ length done
  pub last : x.last ≡ last_after None done
  pub state : x.state ≡ state_at_end (start_state P) done
  pub outputs : x.outputs.items ≡ outputs_of done
  pub ready : IsReady P x.last x.state
  pub width : x.history.width ≡ length P.variables
  pub base : x.base ≤ length done
  pub floor : x.floor ≡ last_after None (take x.base done)
  pub from : AllByRecursion (λ c. x.base ≤ c.done.rows) x.history.saves
  pub saved : AreSaved x.base P done x.history.saves
  pub near : x.rows ≤ reach x.base x.history.saves
  pub due : x.due ≤ reach x.base x.history.saves
  pub aside_width : x.aside.history.width ≡ length P.variables
  pub aside : AreAside P E x.aside.first x.aside.outputs x.aside.history.saves
  pub scratch : IsRoomOf P x.scratch

-- what is given at a tag that the program executes: each input is one of the program's, none is given twice
pub record CanGive (P : Program) (tag : Moment) (X : List Given) : Type 0 where
  pub time : tag.time ≤ P.stop
  pub microstep : tag.microstep ≤ top_of P
  pub inputs : AreInputs P X

-- no rows that begin the run are more than there may be names
abbrev pub AreFew : Program → List Event → Type 0
AreFew P E = (rows : List Row) → Begin P E rows → length rows ≤ most_names

-- the same rows are executed, and more or none behind them, and the floor stays
pub record ExecutesMore (x y : Tip) : Type 0 where
  pub floor : y.floor ≡ x.floor
  pub rows : (P : Program) (E : List Event) (done : List Row) → HasExecuted P E x done
      → (rows : List Row) × HasExecuted P E y (done ++ rows)

-- What was executed is cut to rows that end before the tag, with nothing aside that is before the tag: it is all of
-- it, as where the tag is after the last row, or the run has at most sixteen rows more before the tag.
pub record GoesBack (P : Program) (E : List Event) (tag : Moment) (done : List Row) (x : Tip) : Type 0 where
  pub left : ℕ
  pub within : left ≤ length done
  pub at : HasExecuted P E x (take left done)
  pub before : is_after x.last tag ≡ true
  pub aside : IsFrom tag x.aside.history.saves
  pub ahead : is_after (last_after None done) tag ≡ true → left ≡ length done
  pub near : (left ≡ length done) ⊎ ((trace : List Row) → Run P E trace → rows_before tag trace ≤ left + spacing)

-- The same is executed, and the same is aside: one checkpoint more may stand, and there may be more room.
pub record IsSame (x y : Tip) : Type 0 where
  pub last : y.last ≡ x.last
  pub state : y.state ≡ x.state
  pub rows : y.rows ≡ x.rows
  pub outputs : y.outputs.items ≡ x.outputs.items
  pub floor : y.floor ≡ x.floor
  pub aside : IsSameAside x.aside y.aside
  pub kept : (P : Program) (E : List Event) (done : List Row) → HasExecuted P E x done → HasExecuted P E y done

-- each list has the room that it had
pub record KeepsRoom (x y : Tip) : Type 0 where
  pub history : y.history.room ≡ x.history.room
  pub outputs : vec_capacity y.outputs ≡ vec_capacity x.outputs
  pub aside : y.aside.history.room ≡ x.aside.history.room
  pub aside_outputs : y.aside.room ≡ x.aside.room

-- there is room for one more row: a checkpoint is near enough, and the row's outputs need no memory
pub record IsRoom (P : Program) (x : Tip) : Type 0 where
  pub near : x.rows + 1 ≤ reach x.base x.history.saves
  pub outputs : vec_len x.outputs + length P.outputs ≤ vec_capacity x.outputs
