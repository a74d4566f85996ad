-- the arena has the event; where the live events changed what is left stays done, and where they stayed all does
use Rattle.std.proofs.Common.{not, w64, ap, sym, subst, ◌∙◌}
use Rattle.std.proofs.lemmas.Int.{to_z-of_z}
use Rattle.warp_tag.specs.Table.{with_event}
use Rattle.warp_tag.proofs.Tables.{events_pass, with_event_names}
use Rattle.warp_step.specs.Events.{event_fits}
use Rattle.warp_step.specs.Run.{is_after}
use Rattle.warp_arena.specs.Places.{Contents}
use Rattle.warp_run.specs.Skips.{IsCut, covers}
use Rattle.warp_run.specs.Tip.{KeepsRoom}
use Rattle.warp_run.specs.Warp.{latest_with}
use Rattle.warp_run.specs.declared.tip.Tip.{Tip}
use Rattle.warp_run.specs.declared.warp.Warp.{Warp}
use Rattle.warp_run.proofs.ChangesFloor.{not_behind}
use Rattle.warp_run.proofs.ChangesEvents.{all_through, one_through}
use Rattle.warp_run.proofs.SkipsKept.{cut_free}
use Rattle.warp_run.proofs.ChangesStand.{keeps_room, named_after, never_same, same_room, same_stands, undone_stands}
use Rattle.warp_run.proofs.warp.Warp.put_among.Goals as goal

pub undo_from-requires-clause-named : goal.undo_from-requires-clause-named
undo_from-requires-clause-named c =
    let made = rw (to_z-of_z w64 c.args.value c.ranges.value) at c.set_event.ensures.places in
    named_after (with_event c.args.input c.args.value) (with_event_names c.args.input c.args.value) c.node-node.ensures.names made

pub undo_from-requires-clause-ahead : goal.undo_from-requires-clause-ahead
undo_from-requires-clause-ahead c =
    ap (λ (w : Warp). is_after w.tip.floor c.args.tag) c.node-node.ensures.names.others
    ∙ not_behind c.args.self.now.tip.floor c.args.tag c.requires.ahead

pub returns-then-changes-clause-floor : goal.returns-then-changes-clause-floor
returns-then-changes-clause-floor c = c.undo_from.ensures.floor ∙ ap (λ (w : Warp). w.tip.floor) c.node-node.ensures.names.others

pub returns-else-changes-clause-floor : goal.returns-else-changes-clause-floor
returns-else-changes-clause-floor c = ap (λ (w : Warp). w.tip.floor) c.node-node.ensures.names.others

pub returns-then-changes-clause-stands : goal.returns-then-changes-clause-stands
returns-then-changes-clause-stands c = λ m h good.
    let made = rw (to_z-of_z w64 c.args.value c.ranges.value) at c.set_event.ensures.places in
    let noted = rw (to_z-of_z w64 c.args.value c.ranges.value) at c.note_event-changes.ensures.entry in
    let latest = c.args.self.now.latest in
    let fits = events_pass (event_fits m.program) c.args.origin c.args.tag c.args.input c.args.value m.table h.events good in
    let through = events_pass (λ e. not (is_after (latest_with c.args.tag latest) e.tag)) c.args.origin c.args.tag c.args.input c.args.value m.table
    (all_through c.args.tag latest _ h.latest) (one_through c.args.tag latest) in
    let u = c.undo_from.ensures in
    let skips = c.undo_from.new.self.skips in
    let cut = subst (λ s. IsCut c.args.tag s skips) (ap (λ (w : Warp). w.skips) c.node-node.ensures.names.others) u.skips in
    let free = events_pass (λ e. not (covers skips e.tag)) c.args.origin c.args.tag c.args.input c.args.value m.table
    (cut_free c.args.tag _ _ cut _ h.skips) (ap not cut.apart) in
    undone_stands (with_event c.args.input c.args.value) (with_event_names c.args.input c.args.value) c.node-node.ensures.names made
    (not_behind c.args.self.now.tip.floor c.args.tag c.requires.ahead) c.entry.ensures.entry noted h (c.note_event-changes.ensures.changes c.if-changes.true) fits through
    c.undo_from.new.self u.arena u.floor u.latest u.unsettled u.tip u.cursor free

pub returns-else-changes-clause-stands : goal.returns-else-changes-clause-stands
returns-else-changes-clause-stands c = λ m h good.
    let made = rw (to_z-of_z w64 c.args.value c.ranges.value) at c.set_event.ensures.places in
    let noted = rw (to_z-of_z w64 c.args.value c.ranges.value) at c.note_event-changes.ensures.entry in
    same_stands (with_event c.args.input c.args.value) (with_event_names c.args.input c.args.value) c.node-node.ensures.names made
    (not_behind c.args.self.now.tip.floor c.args.tag c.requires.ahead) c.entry.ensures.entry noted h (c.note_event-changes.ensures.same c.if-changes.false)

pub returns-then-changes-clause-settled : goal.returns-then-changes-clause-settled
returns-then-changes-clause-settled c = λ m h good same.
    let made = rw (to_z-of_z w64 c.args.value c.ranges.value) at c.set_event.ensures.places in
    let noted = rw (to_z-of_z w64 c.args.value c.ranges.value) at c.note_event-changes.ensures.entry in
    absurd (never_same (with_event c.args.input c.args.value) (with_event_names c.args.input c.args.value) c.node-node.ensures.names made
    (not_behind c.args.self.now.tip.floor c.args.tag c.requires.ahead) c.entry.ensures.entry noted h (c.note_event-changes.ensures.changes c.if-changes.true) same)

pub returns-else-changes-clause-settled : goal.returns-else-changes-clause-settled
returns-else-changes-clause-settled c = λ m h good same. ap (λ (w : Warp). w.settled) c.node-node.ensures.names.others

pub returns-then-changes-clause-room : goal.returns-then-changes-clause-room
returns-then-changes-clause-room c =
    let others = c.node-node.ensures.names.others in
    let u = c.undo_from.ensures in
    same_room c.args.self.now c.undo_from.new.self
    (ap (λ (a : Contents). a.room) u.arena ∙ ap (λ (a : Contents). a.room) c.set_event.ensures.places ∙ c.node-node.ensures.room)
    (subst (λ (x : Tip). KeepsRoom x c.undo_from.new.self.tip) (ap (λ (w : Warp). w.tip) others) u.room)
    (u.given ∙ ap (λ (w : Warp). w.given) others)

pub returns-else-changes-clause-room : goal.returns-else-changes-clause-room
returns-else-changes-clause-room c =
    let others = c.node-node.ensures.names.others in
    same_room c.args.self.now (record c.node-node.new.self { arena = c.set_event.new.self }) (ap (λ (a : Contents). a.room) c.set_event.ensures.places ∙ c.node-node.ensures.room)
    (subst (λ (x : Tip). KeepsRoom c.args.self.now.tip x) (sym (ap (λ (w : Warp). w.tip) others)) (keeps_room c.args.self.now.tip))
    (ap (λ (w : Warp). w.given) others)
