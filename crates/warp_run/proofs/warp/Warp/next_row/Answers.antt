-- the earlier of the first event after the last row and the least pending entry is next, and where there is neither all is done
use Rattle.std.proofs.Common.{◌≡◌, None, ap, sym, subst, ◌∙◌}
use Rattle.warp_tag.specs.Table.{live}
use Rattle.warp_step.specs.Snapshot.{Snapshot, least_pending}
use Rattle.warp_run.specs.Walk.{ahead}
use Rattle.warp_run.proofs.PlacesWalks.{HasBefore, HasFound, reaches_as}
use Rattle.warp_run.proofs.TurnsNext.{event_alone, event_before, entry_next}
use Rattle.warp_run.proofs.TurnsWarp.{ahead_free, ahead_through, all_done_there, least_entry}
use Rattle.warp_run.proofs.TurnsFirst.{before_at, first_live, found_at, live_ahead, no_live, none_before_tag}
use Rattle.warp_run.proofs.warp.Warp.next_row.Goals as goal

pub next_event-requires : goal.next_event-requires
next_event-requires c =
    let w = c.args.self.now in (
      ahead w.tip.last w.arena.places,
      reaches_as _ _ _ _ c.node.ensures c.requires.1.cursor,
      ahead_through w c.requires.0 c.requires.1,
      ahead_free w c.requires.0 c.requires.1,
    )

pub event_before-requires : goal.event_before-requires
event_before-requires c =
    let w = c.args.self.now in
    (ahead w.tip.last w.arena.places, reaches_as _ _ _ _ c.node-2.ensures c.requires.1.cursor, ahead_free w c.requires.0 c.requires.1)

pub returns-in_err-live-clause-none : goal.returns-in_err-live-clause-none
returns-in_err-live-clause-none c = λ none m h.
    let w = c.args.self.now in
    let pending : least_pending w.tip.state.pending ≡ None = ap (λ (s : Snapshot). least_pending s.pending)
    (sym c.state.ensures) ∙ sym c.next.ensures ∙ c.in_default.is in
    all_done_there w m h (no_live w m h c.next_event.result (subst (λ x. HasFound w.arena.places x w.latest c.next_event.result) c.node.ensures c.next_event.ensures) c.in_err-live.was) pending

pub returns-in_default-clause-some : goal.returns-in_default-clause-some
returns-in_default-clause-some c = λ m h.
    let w = c.args.self.now in
    let l = c.in_ok-live.live in
    let pending : least_pending w.tip.state.pending ≡ None = ap (λ (s : Snapshot). least_pending s.pending)
    (sym c.state.ensures) ∙ sym c.next.ensures ∙ c.in_default.is in
    let found = found_at w m h c.next_event.result (subst (λ x. HasFound w.arena.places x w.latest c.next_event.result) c.node.ensures c.next_event.ensures) l c.in_ok-live.was in
    event_alone (live m.table) w.tip.last w.tip.state l.tag (first_live w m h l found c.ordered.ensures.order) pending

pub returns-in_default-clause-event : goal.returns-in_default-clause-event
returns-in_default-clause-event c =
    let w = c.args.self.now in
    let m = c.requires.0 in
    let h = c.requires.1 in
    live_ahead w m h c.in_ok-live.live (found_at w m h c.next_event.result (subst (λ x. HasFound w.arena.places x w.latest c.next_event.result) c.node.ensures c.next_event.ensures) c.in_ok-live.live c.in_ok-live.was)
    c.ordered.ensures.order

pub returns-in-Some-event_before-clause-some : goal.returns-in-Some-event_before-clause-some
returns-in-Some-event_before-clause-some c = λ m h.
    let w = c.args.self.now in
    let l = c.in-Some-event_before.live in
    let found = before_at w m h c.in-Some.pending c.event_before.result (subst (λ x. HasBefore w.arena.places x c.in-Some.pending c.event_before.result) c.node-2.ensures c.event_before.ensures) l c.in-Some-event_before.is in
    let least = least_entry w m h c.next.result c.in-Some.pending
    (c.next.ensures ∙ ap (λ (s : Snapshot). least_pending s.pending) c.state.ensures) c.in-Some.is in
    event_before (live m.table) w.tip.last w.tip.state l.tag c.in-Some.pending (first_live w m h l found.0 c.ordered.ensures.order) least found.1

pub returns-in-Some-event_before-clause-event : goal.returns-in-Some-event_before-clause-event
returns-in-Some-event_before-clause-event c =
    let w = c.args.self.now in
    let m = c.requires.0 in
    let h = c.requires.1 in
    let l = c.in-Some-event_before.live in
    live_ahead w m h l (before_at w m h c.in-Some.pending c.event_before.result (subst (λ x. HasBefore w.arena.places x c.in-Some.pending c.event_before.result) c.node-2.ensures c.event_before.ensures) l c.in-Some-event_before.is).0
    c.ordered.ensures.order

pub returns-in-None-clause-some : goal.returns-in-None-clause-some
returns-in-None-clause-some c = λ m h.
    let w = c.args.self.now in
    let least = least_entry w m h c.next.result c.in-Some.pending
    (c.next.ensures ∙ ap (λ (s : Snapshot). least_pending s.pending) c.state.ensures) c.in-Some.is in
    entry_next (live m.table) w.tip.last w.tip.state c.in-Some.pending least
    (none_before_tag w m h c.in-Some.pending c.event_before.result (subst (λ x. HasBefore w.arena.places x c.in-Some.pending c.event_before.result) c.node-2.ensures c.event_before.ensures) c.in-None.is)
