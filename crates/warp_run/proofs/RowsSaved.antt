-- Checkpoints of rows: they stay those of a front of the rows and of more rows.
use Rattle.std.proofs.Common.{◌≡◌, ℕ, ◌≤◌, List, [], ◌∷◌, ◌++◌, length, take, ap, sym, ◌∙◌, length-append, refl, arith, Option, Some, None}
use Rattle.std.specs.List.{AllByRecursion}
use Rattle.std.proofs.lemmas.List.{take-append-le}
use Rattle.warp_tag.specs.Moment.{Moment}
use Rattle.warp_step.specs.Program.{Program}
use Rattle.warp_step.specs.Snapshot.{Snapshot, start_state}
use Rattle.warp_step.specs.Run.{Row, state_at_end, outputs_of}
use Rattle.warp_line.specs.Begin.{last_after}
use Rattle.warp_run.specs.History.{Saved}
use Rattle.warp_run.specs.Tip.{AreSaved, IsSaved}

-- the last tag and the state after one more row
pub last_more : (last : Option Moment) (rows : List Row) (row : Row) → last_after last (rows ++ row ∷ []) ≡ Some row.tag
last_more last [] row = refl
last_more last (r ∷ rows) row = last_more (Some r.tag) rows row

pub state_more : (s : Snapshot) (rows : List Row) (row : Row) → state_at_end s (rows ++ row ∷ []) ≡ row.state
state_more s [] row = refl
state_more s (r ∷ rows) row = state_more r.state rows row

-- the last tag and the state after more rows
pub last_append : (last : Option Moment) (a b : List Row) → last_after last (a ++ b) ≡ last_after (last_after last a) b
last_append last [] b = refl
last_append last (r ∷ a) b = last_append (Some r.tag) a b

pub state_append : (s : Snapshot) (a b : List Row) → state_at_end s (a ++ b) ≡ state_at_end (state_at_end s a) b
state_append s [] b = refl
state_append s (r ∷ a) b = state_append r.state a b

-- a checkpoint of some rows is one of other rows that begin with the same
saved_same : (P : Program) (a b : List Row) (c : Saved) → c.done.rows ≤ length b → take c.done.rows a ≡ take c.done.rows b
    → IsSaved P a c → IsSaved P b c
saved_same P a b c within same h = record {
  within = within;
  last = h.last ∙ ap (last_after None) same;
  state = h.state ∙ ap (state_at_end (start_state P)) same;
  outputs = h.outputs ∙ ap (λ (rows : List Row). length (outputs_of rows)) same;
  ready = h.ready;
}

-- so are checkpoints of which none has more rows than begin both
pub saved_on : (base : ℕ) (P : Program) (a b : List Row) (n : ℕ) (cs : List Saved) → n ≤ length b → ((k : ℕ) → k ≤ n → take k a ≡ take k b)
    → AllByRecursion (λ c. c.done.rows ≤ n) cs → AreSaved base P a cs → AreSaved base P b cs
saved_on base P a b n [] within same few h = tt
saved_on base P a b n (c ∷ cs) within same few h =
    let less = few.0 in
    let there : c.done.rows ≤ length b = omega arith in
    (saved_same P a b c there (same c.done.rows few.0) h.0, h.1, h.2, saved_on base P a b n cs within same few.1 h.3)

-- none has more rows than there are, nor more than the newest
pub all_within : (base : ℕ) (P : Program) (rows : List Row) (cs : List Saved) → AreSaved base P rows cs → AllByRecursion (λ c. c.done.rows ≤ length rows) cs
all_within base P rows [] h = tt
all_within base P rows (c ∷ cs) h = (h.0.within, all_within base P rows cs h.3)

pub all_older : (base : ℕ) (P : Program) (rows : List Row) (c : Saved) (cs : List Saved) → AreSaved base P rows (c ∷ cs)
    → AllByRecursion (λ d. d.done.rows ≤ c.done.rows) (c ∷ cs)
all_older base P rows c cs h = (omega arith, h.2)

-- they stay where more rows are executed
pub saved_more : (base : ℕ) (P : Program) (rows more : List Row) (cs : List Saved) → AreSaved base P rows cs → AreSaved base P (rows ++ more) cs
saved_more base P rows more cs h =
    saved_on base P rows (rows ++ more) (length rows) cs (omega (arith, length-append rows more))
    (λ k few. sym (take-append-le k rows more few)) (all_within base P rows cs h) h
