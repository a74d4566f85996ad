-- Going on over what is aside: the cursor goes along.
use Rattle.std.proofs.Common.{◌≡◌, ℕ, Bool, true, false, ◌&&◌, List, [], ◌∷◌, ◌++◌, ap, sym, subst, ◌∙◌, refl, arith, filter, Option, Some, None}
use Rattle.warp_tag.specs.Moment.{Moment}
use Rattle.warp_tag.specs.Table.{Event, live}
use Rattle.warp_step.specs.Program.{Program}
use Rattle.warp_step.specs.Snapshot.{Snapshot, start_state}
use Rattle.warp_step.specs.Run.{Row, is_after, state_at_end}
use Rattle.warp_step.proofs.TagsOfRun.{waits_after}
use Rattle.warp_line.specs.Begin.{BeginFrom, last_after}
use Rattle.warp_line.specs.Timeline.{Standing}
use Rattle.warp_arena.specs.Places.{Place, Reaches}
use Rattle.warp_run.specs.Tip.{AreFew, ExecutesMore, HasExecuted}
use Rattle.warp_run.specs.Walk.{AreThrough, ahead}
use Rattle.warp_run.specs.Warp.{Goes, StandsFor}
use Rattle.warp_run.specs.declared.tip.Tip.{Tip}
use Rattle.warp_run.specs.declared.warp.Warp.{Warp}
use Rattle.warp_run.proofs.PlacesBack.{ahead_none}
use Rattle.warp_run.proofs.RowsBegun.{begin_behind}
use Rattle.warp_run.proofs.RowsSaved.{last_append}
use Rattle.warp_run.proofs.TurnsLive.{ahead_twice, both_filters}
use Rattle.warp_run.proofs.TurnsRuns.{begin_names}
use Rattle.warp_run.proofs.TurnsStep.{stands_on}

and_same : (b : Bool) → (b && b) ≡ b
and_same true = refl
and_same false = refl

-- the places after a row, of those after it
ahead_same : (last : Option Moment) (places : List Place) → ahead last (ahead last places) ≡ ahead last places
ahead_same last places =
    both_filters (λ (p : Place). is_after last p.entry.tag) (λ p. is_after last p.entry.tag) places
    ∙ ap (λ (test : Place → Bool). filter test places) (λ i p. and_same (is_after last p.entry.tag) i)

-- and after more rows
ahead_begun : (P : Program) (E : List Event) (last : Option Moment) (s : Snapshot) (rows : List Row) (places : List Place) → BeginFrom P E last s rows
    → ahead (last_after last rows) (ahead last places) ≡ ahead (last_after last rows) places
ahead_begun P E last s [] places h = ahead_same last places
ahead_begun P E last s (r ∷ rows) places h =
    sym (ahead_begun P E (Some r.tag) r.state rows (ahead last places) h.2)
    ∙ ap (ahead (last_after (Some r.tag) rows)) (ahead_twice last r.tag places (waits_after E last s r.tag h.0.waiting))
    ∙ ahead_begun P E (Some r.tag) r.state rows places h.2

-- so it is between two fronts of which one goes on from the other
ahead_on : (P : Program) (E : List Event) (x y : Tip) (done rows : List Row) (places : List Place) → HasExecuted P E x done → HasExecuted P E y (done ++ rows)
    → ahead y.last (ahead x.last places) ≡ ahead y.last places
ahead_on P E x y done rows places h k =
    let s : Snapshot = start_state P in
    let same : y.last ≡ last_after x.last rows =
    k.last ∙ last_append None done rows ∙ ap (λ (o : Option Moment). last_after o rows) (sym h.last) in
    let begins : BeginFrom P E x.last (state_at_end s done) rows =
    subst (λ (o : Option Moment). BeginFrom P E o (state_at_end s done) rows) (sym h.last) (begin_behind P E None s done rows k.begin) in
    subst (λ (o : Option Moment). ahead o (ahead x.last places) ≡ ahead o places) (sym same) (ahead_begun P E x.last (state_at_end s done) rows places begins)

-- what is executed may be gone over
pub may_rejoin : (w : Warp) (m : Standing) → StandsFor w m → AreFew m.program (live m.table)
may_rejoin w m h = begin_names m.program (live m.table) h.program h.events

-- a value that went on over what was aside, with a cursor behind
pub rejoined : (P : Program) (w v : Warp) → w.settled ≡ false → v.arena ≡ w.arena → v.latest ≡ w.latest → v.settled ≡ w.settled → v.skips ≡ w.skips → ExecutesMore w.tip v.tip
    → ((m : Standing) → StandsFor w m → Reaches w.arena.places (ahead v.tip.last (ahead w.tip.last w.arena.places)) v.cursor)
    → Goes P w v 0
rejoined P w v unsettled arena latest settled skips on cursor = λ m h same.
    let more = on.rows m.program (live m.table) m.done h.tip in
    let places = w.arena.places in (
      more.0,
      stands_on w v m (m.done ++ more.0) h arena on.floor more.1
          (subst (λ (qs : List Place). Reaches places qs v.cursor)
          (ahead_on m.program (live m.table) w.tip v.tip m.done more.0 places h.tip more.1) (cursor m h))
          (subst (λ (l : Option Moment). AreThrough l (live m.table)) (sym latest) h.latest)
          (λ yes. let never : true ≡ false = sym yes ∙ settled ∙ unsettled in cc) skips,
      omega arith,
    )

-- where there is no last row after it, there was none
pub none_ahead : (last : Option Moment) (places : List Place) (at : Option ℕ) (old : Option Moment) → last ≡ None
    → Reaches places (ahead old places) at → Reaches places (ahead last (ahead old places)) at
none_ahead last places at old none r =
    subst (λ (qs : List Place). Reaches places qs at)
    (sym (ap (λ (o : Option Moment). ahead o (ahead old places)) none ∙ ahead_none (ahead old places))) r
