-- the table has the event, and the rows stay done where the live events stayed
use Rattle.std.proofs.Common.{refl, w64}
use Rattle.std.proofs.lemmas.Int.{to_z-of_z}
use Rattle.warp_tag.specs.Table.{with_event}
use Rattle.warp_tag.proofs.Tables.{events_pass}
use Rattle.warp_step.specs.Events.{event_fits}
use Rattle.warp_line.proofs.PlainLemmas.{note_stands, stays_settled}
use Rattle.warp_line.proofs.plain.PlainTimeline.put.Goals as goal

pub returns-clause-stands : goal.returns-clause-stands
returns-clause-stands c = λ m h good.
    let e = c.note_event.ensures in
    let table = rw (to_z-of_z w64 c.args.value c.ranges.value) at e.table in
    let fits = events_pass (event_fits m.program) c.args.origin c.args.tag c.args.input c.args.value m.table h.events good in
    note_stands c.args.self.now _ m (with_event c.args.input c.args.value) c.args.origin c.args.tag c.note_event.result
    h table e.ordered e.same e.changes fits refl refl refl

pub returns-clause-settled : goal.returns-clause-settled
returns-clause-settled c = λ m h good same.
    let e = c.note_event.ensures in
    let table = rw (to_z-of_z w64 c.args.value c.ranges.value) at e.table in
    stays_settled c.args.self.now _ _ m (with_event c.args.input c.args.value) c.args.origin c.args.tag c.note_event.result
    h table e.changes refl same
