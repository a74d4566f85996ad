-- The base of what is executed: it stays where more rows are, and no row up to it is after the floor.
use Rattle.std.proofs.Common.{◌≡◌, ℕ, zero, suc, ◌≤◌, true, false, not, List, [], ◌∷◌, ◌++◌, length, take, drop, filter, ap, sym, subst, ◌∙◌, refl, inl, inr, arith, Option, Some, None, length-append, take-append-drop}
use Rattle.std.specs.List.{AllByRecursion}
use Rattle.std.proofs.lemmas.Bool.{cases_Bool}
use Rattle.std.proofs.lemmas.List.{length-take-le, take-append-le, take-take, take_all}
use Rattle.std.proofs.lemmas.List.Elements.{filter-append}
use Rattle.std.proofs.lemmas.List.Sums.{length-filter}
use Rattle.warp_tag.specs.Moment.{Moment}
use Rattle.warp_tag.specs.Table.{Event}
use Rattle.warp_tag.proofs.Tags.{not_before_self}
use Rattle.warp_step.specs.Program.{Program}
use Rattle.warp_step.specs.Snapshot.{Snapshot, start_state}
use Rattle.warp_step.specs.Run.{Row, is_after, state_at_end}
use Rattle.warp_step.proofs.PartedLists.{filter_all}
use Rattle.warp_step.proofs.TagsOfRun.{after_trans, waits_after}
use Rattle.warp_line.specs.Begin.{Begin, BeginFrom, last_after}
use Rattle.warp_line.specs.Timeline.{is_behind, rows_behind}
use Rattle.warp_run.specs.Tip.{HasExecuted}
use Rattle.warp_run.specs.History.{Saves, reach}
use Rattle.warp_run.specs.declared.tip.Tip.{Tip}
use Rattle.warp_run.proofs.RowsBegun.{begin_behind, begin_take}
use Rattle.warp_run.proofs.RowsSaved.{last_append}

-- ---- of a tip with the same base

module _ (y x : Tip) where
  pub few_more : (done more : List Row) → y.base ≡ x.base → x.base ≤ length done → y.base ≤ length (done ++ more)
  few_more done more same few = let all = length-append done more in omega arith

  pub still_floor : (done more : List Row) → y.base ≡ x.base → y.floor ≡ x.floor → x.base ≤ length done
      → x.floor ≡ last_after None (take x.base done) → y.floor ≡ last_after None (take y.base (done ++ more))
  still_floor done more same floor few is =
      floor ∙ is ∙ ap (last_after None) (sym (take-append-le x.base done more few))
      ∙ ap (λ (n : ℕ). last_after None (take n (done ++ more))) (sym same)

  pub still_from : y.base ≡ x.base → y.history ≡ x.history → AllByRecursion (λ c. x.base ≤ c.done.rows) x.history.saves
      → AllByRecursion (λ c. y.base ≤ c.done.rows) y.history.saves
  still_from same history h =
      subst (λ (n : ℕ). AllByRecursion (λ c. n ≤ c.done.rows) y.history.saves) (sym same)
      (subst (λ (z : Saves). AllByRecursion (λ c. x.base ≤ c.done.rows) z.saves) (sym history) h)

  pub still_near : (n : ℕ) → y.base ≡ x.base → y.history ≡ x.history → n ≤ reach x.base x.history.saves → n ≤ reach y.base y.history.saves
  still_near n same history h =
      subst (λ (k : ℕ). n ≤ reach k y.history.saves) (sym same) (subst (λ (z : Saves). n ≤ reach x.base z.saves) (sym history) h)

-- ---- the last tags of fewer rows are not after those of more

-- what is after the last of rows that begin a run is after where they begin
pub after_begun : (P : Program) (E : List Event) (last : Option Moment) (s : Snapshot) (rows : List Row) (t : Moment) → BeginFrom P E last s rows
    → is_after (last_after last rows) t ≡ true → is_after last t ≡ true
after_begun P E last s [] t h after = after
after_begun P E last s (r ∷ rows) t h after =
    after_trans last r.tag t (waits_after E last s r.tag h.0.waiting) (after_begun P E (Some r.tag) r.state rows t h.2 after)

-- so what is after the last of some first rows is after that of fewer
pub after_fewer : (P : Program) (E : List Event) (done : List Row) (n k : ℕ) (t : Moment) → Begin P E done → n ≤ k
    → is_after (last_after None (take k done)) t ≡ true → is_after (last_after None (take n done)) t ≡ true
after_fewer P E done n k t begin less after =
    let rows : List Row = take k done in
    let parts : take n rows ++ drop n rows ≡ rows = take-append-drop n rows in
    let first : take n rows ≡ take n done = take-take n k done less in
    let begins : BeginFrom P E None (start_state P) (take n rows ++ drop n rows) =
    subst (BeginFrom P E None (start_state P)) (sym parts) (begin_take P E None (start_state P) k done begin) in
    let behind = begin_behind P E None (start_state P) (take n rows) (drop n rows) begins in
    let there : is_after (last_after (last_after None (take n rows)) (drop n rows)) t ≡ true =
    ap (λ (o : Option Moment). is_after o t) (sym (last_append None (take n rows) (drop n rows)) ∙ ap (last_after None) parts) ∙ after in
    let here = after_begun P E (last_after None (take n rows)) (state_at_end (start_state P) (take n rows)) (drop n rows) t behind there in
    ap (λ (xs : List Row). is_after (last_after None xs) t) (sym first) ∙ here

-- ---- the rows of a base are behind its floor

-- no row of those that begin a run is after the last of them
none_later : (P : Program) (E : List Event) (last : Option Moment) (s : Snapshot) (rows : List Row) → BeginFrom P E last s rows
    → AllByRecursion (λ r. is_behind (last_after last rows) r.tag ≡ true) rows
none_later P E last s [] h = tt
none_later P E last s (r ∷ rows) h = (
  elim (cases_Bool (is_after (last_after (Some r.tag) rows) r.tag)) [
    | inl after ↦
        let never : true ≡ false = sym (after_begun P E (Some r.tag) r.state rows r.tag h.2 after) ∙ not_before_self r.tag in cc
    | inr so ↦ ap not so
  ],
  none_later P E (Some r.tag) r.state rows h.2,
)

-- so at least as many rows are behind as the base has
pub behind_base : (P : Program) (E : List Event) (done : List Row) (n : ℕ) → Begin P E done → n ≤ length done
    → n ≤ rows_behind (last_after None (take n done)) done
behind_base P E done n begin within =
    let floor : Option Moment = last_after None (take n done) in
    let test = (λ (r : Row). is_behind floor r.tag) in
    let all : filter test (take n done) ≡ take n done =
    filter_all test (take n done) (none_later P E None (start_state P) (take n done) (begin_take P E None (start_state P) n done begin)) in
    let parts : filter test done ≡ take n done ++ filter test (drop n done) =
    ap (filter test) (sym (take-append-drop n done)) ∙ filter-append test (take n done) (drop n done)
    ∙ ap (λ (xs : List Row). xs ++ filter test (drop n done)) all in
    let count = length-filter test done in
    let lengths = ap (λ (xs : List Row). length xs) parts in
    let both = length-append (take n done) (filter test (drop n done)) in
    let long = length-take-le n done within in
    omega arith

-- what is after the last row is after the floor
pub after_floor : (P : Program) (E : List Event) (x : Tip) (done : List Row) → HasExecuted P E x done → (t : Moment) → is_after x.last t ≡ true
    → is_after x.floor t ≡ true
after_floor P E x done h t after =
    let all : is_after (last_after None (take (length done) done)) t ≡ true =
    ap (λ (xs : List Row). is_after (last_after None xs) t) (take_all (length done) done (omega arith)) ∙ ap (λ (o : Option Moment). is_after o t) (sym h.last) ∙ after in
    ap (λ (o : Option Moment). is_after o t) h.floor ∙ after_fewer P E done x.base (length done) t h.begin h.base all

-- of no rows there is none
pub no_floor : (n : ℕ) → last_after None (take n []) ≡ None
no_floor zero = refl
no_floor (suc n) = refl
