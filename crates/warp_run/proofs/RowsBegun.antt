-- Rows that begin a run: the first of them, and more behind them.
use Rattle.std.proofs.Common.{ℕ, zero, suc, List, [], ◌∷◌, ◌++◌, take, Option, Some}
use Rattle.warp_tag.specs.Moment.{Moment}
use Rattle.warp_tag.specs.Table.{Event}
use Rattle.warp_step.specs.Program.{Program}
use Rattle.warp_step.specs.Snapshot.{Snapshot}
use Rattle.warp_step.specs.Run.{Row, state_at_end}
use Rattle.warp_line.specs.Begin.{BeginFrom, last_after}

-- the first rows that begin a run begin it
pub begin_take : (P : Program) (E : List Event) (last : Option Moment) (s : Snapshot) (n : ℕ) (rows : List Row) → BeginFrom P E last s rows
    → BeginFrom P E last s (take n rows)
begin_take P E last s zero rows h = tt
begin_take P E last s (suc n) [] h = tt
begin_take P E last s (suc n) (row ∷ rows) h = (h.0, h.1, begin_take P E (Some row.tag) row.state n rows h.2)

-- rows that begin a run go on with rows that begin it from there on, and only so
pub begin_append : (P : Program) (E : List Event) (last : Option Moment) (s : Snapshot) (a b : List Row) → BeginFrom P E last s a
    → BeginFrom P E (last_after last a) (state_at_end s a) b → BeginFrom P E last s (a ++ b)
begin_append P E last s [] b h k = k
begin_append P E last s (r ∷ a) b h k = (h.0, h.1, begin_append P E (Some r.tag) r.state a b h.2 k)

pub begin_behind : (P : Program) (E : List Event) (last : Option Moment) (s : Snapshot) (a b : List Row) → BeginFrom P E last s (a ++ b)
    → BeginFrom P E (last_after last a) (state_at_end s a) b
begin_behind P E last s [] b h = h
begin_behind P E last s (r ∷ a) b h = begin_behind P E (Some r.tag) r.state a b h.2
