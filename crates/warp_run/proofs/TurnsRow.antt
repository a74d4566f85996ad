-- The row at the next tag: with what the places up to it give the step may be made, and then one more row is done.
use Rattle.std.proofs.Common.{◌≡◌, ℕ, ◌≤◌, ◌<◌, true, false, List, [], ◌∷◌, ◌++◌, ap, subst, sym, ◌∙◌, refl, arith, Option, Some}
use Rattle.warp_tag.specs.Limits.{most_names}
use Rattle.warp_tag.specs.Moment.{Moment}
use Rattle.warp_tag.specs.Table.{Event, live}
use Rattle.warp_step.specs.Program.{Program}
use Rattle.warp_step.specs.Run.{Row, IsNext, given_at}
use Rattle.warp_step.specs.Snapshot.{Snapshot}
use Rattle.warp_step.specs.declared.given_input.Given.{Given}
use Rattle.warp_arena.specs.Places.{IsOrdered, Reaches, places_after}
use Rattle.warp_line.specs.Timeline.{Standing}
use Rattle.warp_run.specs.Tip.{CanGive, HasExecuted, IsSame}
use Rattle.warp_run.specs.Walk.{AreThrough, IsAhead, ahead, given_by, through}
use Rattle.warp_run.specs.Warp.{Goes, StandsFor}
use Rattle.warp_run.specs.declared.tip.Tip.{Tip}
use Rattle.warp_run.specs.declared.walk.Live.{Live}
use Rattle.warp_run.specs.declared.warp.Warp.{Warp}
use Rattle.warp_run.proofs.TurnsStep.{can_give, cursor_next, few, given_is, same_next, stands_on, stays}

-- a tag at which the next row of what this stands for is
abbrev pub NextAt : Program → Warp → Moment → Type 0
NextAt P w t = (m : Standing) × StandsFor w m × (m.program ≡ P) × IsNext (live m.table) w.tip.last w.tip.state t

-- where the same is executed, the next tag is the same
still_next : (E : List Event) (t : Moment) (x y : Tip) → IsSame x y → IsNext E x.last x.state t → IsNext E y.last y.state t
still_next E t x y same next =
    subst (λ (s : Snapshot). IsNext E y.last s t) (sym same.state)
    (subst (λ (l : Option Moment). IsNext E l x.state t) (sym same.last) next)

-- what is executed is the same as itself
pub same_tip : (x : Tip) → IsSame x x
same_tip x = record { last = refl; state = refl; rows = refl; outputs = refl; floor = refl; aside = refl; kept = λ P E done h. h }

-- what the places up to the tag give
abbrev pub given_through : Warp → Moment → List Given
given_through w t = given_by (through t (ahead w.tip.last w.arena.places))

module _ (P : Program) (w : Warp) (t : Moment) (n : NextAt P w t) where
  -- of what is executed
  pub is_at : (E : List Event) × (done : List Row) × HasExecuted P E w.tip done
  is_at = (live n.0.table, n.0.done, subst (λ (Q : Program). HasExecuted Q (live n.0.table) w.tip n.0.done) n.2 n.1.tip)

  -- there are fewer rows than names, so no more where the same is executed
  pub are_few : (x : Tip) → IsSame w.tip x → x.rows < most_names
  are_few x same =
      let rows = same.rows in
      let less = few w n.0 n.1 t n.3 in
      omega arith

  -- with what the places give a step may be made
  pub may_give : (X : List Given) → X ≡ given_through w t → IsOrdered w.arena → CanGive P t X
  may_give X is ordered =
      subst (λ (Q : Program). CanGive Q t X) n.2 (can_give w n.0 n.1 t n.3 X ordered (given_is w n.0 n.1 t n.3 X X refl is))

  pub may_step : (x : Tip) (X : List Given) → IsSame w.tip x → X ≡ given_through w t
      → (E : List Event) × (done : List Row) × HasExecuted P E x done × IsNext E x.last x.state t × (X ≡ given_at t E)
  may_step x X same is = (
    live n.0.table,
    n.0.done,
    same.kept P (live n.0.table) n.0.done (subst (λ (Q : Program). HasExecuted Q (live n.0.table) w.tip n.0.done) n.2 n.1.tip),
    still_next (live n.0.table) t w.tip x same n.3,
    given_is w n.0 n.1 t n.3 X X refl is,
  )

  -- and where it was made, and the cursor is behind the tag, one more row is done
  pub row_done : (v : Warp) (x : Tip) (X : List Given) (count : ℕ) → IsSame w.tip x → X ≡ given_through w t → w.settled ≡ false
      → v.arena ≡ w.arena → v.latest ≡ w.latest → v.settled ≡ w.settled → v.skips ≡ w.skips → v.tip.last ≡ Some t → v.tip.floor ≡ x.floor
      → Reaches w.arena.places (ahead (Some t) (ahead w.tip.last w.arena.places)) v.cursor
      → ((E : List Event) (done : List Row) → HasExecuted P E x done → IsNext E x.last x.state t → X ≡ given_at t E
      → (row : Row) × HasExecuted P E v.tip (done ++ row ∷ []))
      → count ≤ 1 → Goes P w v count
  row_done v x X count alike is waits arena latest settled skips last floor cursor stepped most = λ m h same.
      let next = same_next w n.0 m t n.1 h n.3 in
      let at = alike.kept P (live m.table) m.done (subst (λ (Q : Program). HasExecuted Q (live m.table) w.tip m.done) same h.tip) in
      let row = stepped (live m.table) m.done at (still_next (live m.table) t w.tip x alike next) (given_is w m h t next X X refl is) in (
        row.0 ∷ [],
        stands_on w v m (m.done ++ row.0 ∷ []) h arena (floor ∙ alike.floor)
            (subst (λ (Q : Program). HasExecuted Q (live m.table) v.tip (m.done ++ row.0 ∷ [])) (sym same) row.1)
            (cursor_next w m h t next v.cursor cursor v.tip.last last)
            (subst (λ (l : Option Moment). AreThrough l (live m.table)) (sym latest) h.latest)
            (λ is_settled. let never : true ≡ false = sym is_settled ∙ settled ∙ waits in cc) skips,
        most,
      )

-- where no step was made, no row is done more
pub row_failed : (P : Program) (w v : Warp) (count : ℕ) → v.arena ≡ w.arena → v.cursor ≡ w.cursor → v.latest ≡ w.latest
    → v.settled ≡ w.settled → v.skips ≡ w.skips → IsSame w.tip v.tip → count ≤ 0 → Goes P w v count
row_failed P w v count arena cursor latest settled skips same none = λ m h is. (
  [],
  stays w v m h arena same.floor (same.kept m.program (live m.table) m.done h.tip)
      (subst (λ (l : Option Moment). Reaches w.arena.places (ahead l w.arena.places) v.cursor) (sym same.last)
      (subst (λ o. Reaches w.arena.places (ahead w.tip.last w.arena.places) o) (sym cursor) h.cursor))
      latest settled skips,
  none,
)

-- where the places behind the first event's give nothing up to its tag, what it gives is all
pub alone_given : (w : Warp) (l : Live) → IsAhead w.arena.places (ahead w.tip.last w.arena.places) l
    → given_by (through l.tag (places_after l.node w.arena.places)) ≡ [] → l.given ∷ [] ≡ given_through w l.tag
alone_given w l first none = sym (first.given ∙ ap (λ xs. l.given ∷ xs) none)

-- and what is after its tag is so behind its place
pub cursor_behind : (w : Warp) (l : Live) → IsAhead w.arena.places (ahead w.tip.last w.arena.places) l → (at : Option ℕ)
    → Reaches w.arena.places (ahead (Some l.tag) (places_after l.node w.arena.places)) at
    → Reaches w.arena.places (ahead (Some l.tag) (ahead w.tip.last w.arena.places)) at
cursor_behind w l first at reaches = subst (λ places. Reaches w.arena.places places at) (sym first.past) reaches
