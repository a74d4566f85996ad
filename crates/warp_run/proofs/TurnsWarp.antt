-- What a `Warp` stands for, and the next tag that waits.
use Rattle.std.proofs.Common.{◌≡◌, Bool, false, not, ap, sym, subst, ◌∙◌, filter, IsTrue, Option, Some, None}
use Rattle.warp_tag.specs.Moment.{Moment}
use Rattle.warp_tag.specs.Table.{Event, live}
use Rattle.warp_step.specs.Snapshot.{least_pending, start_state}
use Rattle.warp_step.specs.Run.{is_after, waits, state_at_end}
use Rattle.warp_line.specs.Timeline.{Standing, IsDone}
use Rattle.warp_line.proofs.RunLemmas.{past, none_waits}
use Rattle.warp_line.proofs.NextLemmas.{none_pending}
use Rattle.warp_arena.specs.Places.{IsOrdered}
use Rattle.warp_run.specs.Skips.{AreFree, covers}
use Rattle.warp_run.specs.Walk.{AreThrough, ahead, first_tag, live_of}
use Rattle.warp_run.specs.Warp.{StandsFor}
use Rattle.warp_run.specs.declared.warp.Warp.{Warp}
use Rattle.warp_run.proofs.ChangesFloor.{both_after}
use Rattle.warp_run.proofs.RowsFloor.{after_floor}
use Rattle.warp_run.proofs.TurnsLive.{all_kept, both_filters, live_kept, live_places}
use Rattle.warp_run.proofs.TurnsNext.{AreSorted, IsFirst, IsLeast, first_is, first_none, least_is, live_sorted}
use Rattle.warp_run.proofs.TurnsRuns.{begin_whole}

module _ (w : Warp) (m : Standing) (h : StandsFor w m) where
  -- the live events after the last row
  pub ahead_events : live_of (ahead w.tip.last w.arena.places) ≡ filter (λ e. is_after w.tip.last e.tag) (live m.table)
  ahead_events =
      live_places (is_after w.tip.last) w.arena.places
      ∙ ap (filter (λ (e : Event). is_after w.tip.last e.tag)) (ap live h.table ∙ live_kept (is_after w.tip.floor) m.table)
      ∙ both_filters (λ (e : Event). is_after w.tip.floor e.tag) (λ e. is_after w.tip.last e.tag) (live m.table)
      ∙ ap (λ (test : Event → Bool). filter test (live m.table))
      (λ i e. both_after w.tip.floor w.tip.last (after_floor m.program (live m.table) w.tip m.done h.tip) e.tag i)

  -- none is after the latest tag
  pub ahead_through : AreThrough w.latest (live_of (ahead w.tip.last w.arena.places))
  ahead_through =
      subst (AreThrough w.latest) (sym ahead_events)
      (all_kept (λ (e : Event). is_after w.tip.last e.tag) (λ e. not (is_after w.latest e.tag)) (live m.table) h.latest)

  -- and none is at a tag of a stretch
  pub ahead_free : AreFree w.skips (live_of (ahead w.tip.last w.arena.places))
  ahead_free =
      subst (AreFree w.skips) (sym ahead_events)
      (all_kept (λ (e : Event). is_after w.tip.last e.tag) (λ e. not (covers w.skips e.tag)) (live m.table) h.skips)

  sorted : IsOrdered w.arena → AreSorted (live m.table)
  sorted ordered = live_sorted m.table h.ordered

  -- the first of them, where there is one
  pub first_event : (o : Option Moment) (a : Moment) → IsOrdered w.arena → o ≡ first_tag (live_of (ahead w.tip.last w.arena.places)) → o ≡ Some a
      → IsFirst w.tip.last (live m.table) a
  first_event o a ordered is some =
      first_is w.tip.last (live m.table) a (sorted ordered) (sym (ap first_tag ahead_events) ∙ sym is ∙ some)

  -- all are past, where there is none
  pub no_event : (o : Option Moment) → o ≡ first_tag (live_of (ahead w.tip.last w.arena.places)) → o ≡ None
      → IsTrue (past w.tip.last (live m.table))
  no_event o is none = first_none w.tip.last (live m.table) (sym (ap first_tag ahead_events) ∙ sym is ∙ none)

  -- the least that is pending
  pub least_entry : (o : Option Moment) (b : Moment) → o ≡ least_pending w.tip.state.pending → o ≡ Some b
      → IsLeast w.tip.last w.tip.state.pending b
  least_entry o b is some = least_is w.tip.last w.tip.state.pending b h.tip.ready.later (sym is ∙ some)

  -- where nothing waits all rows are done
  pub all_done : ((t : Moment) → waits (live m.table) w.tip.last w.tip.state t ≡ false) → IsDone m
  all_done none =
      begin_whole m.program (live m.table) None (start_state m.program) m.done h.tip.begin
      (λ t. ap (λ l. waits (live m.table) l (state_at_end (start_state m.program) m.done) t) (sym h.tip.last)
      ∙ ap (λ s. waits (live m.table) w.tip.last s t) (sym h.tip.state) ∙ none t)

  -- so it is where no event is left and nothing is pending
  pub all_done_there : IsTrue (past w.tip.last (live m.table)) → least_pending w.tip.state.pending ≡ None → IsDone m
  all_done_there gone none = all_done (none_waits w.tip.last w.tip.state (live m.table) gone (none_pending w.tip.state.pending none))
