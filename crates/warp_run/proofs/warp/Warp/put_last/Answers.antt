-- the event is the first of its name: so the live events changed, and all that is done stays done
use Rattle.std.proofs.Common.{◌≡◌, None, Some, not, w64, ap, sym, subst, ◌∙◌, IsSome}
use Rattle.std.proofs.lemmas.Int.{to_z-of_z}
use Rattle.warp_tag.specs.Table.{with_event}
use Rattle.warp_tag.proofs.Tables.{events_pass, with_event_names}
use Rattle.warp_step.specs.Events.{event_fits}
use Rattle.warp_step.specs.Run.{is_after}
use Rattle.warp_arena.specs.Places.{Contents, Reaches, entry_of}
use Rattle.warp_run.specs.Skips.{IsCut, covers}
use Rattle.warp_run.specs.Tip.{HasExecuted, KeepsRoom}
use Rattle.warp_run.specs.Walk.{ahead}
use Rattle.warp_run.specs.Warp.{latest_with}
use Rattle.warp_run.specs.declared.tip.Tip.{Tip}
use Rattle.warp_run.specs.declared.warp.Warp.{Warp}
use Rattle.warp_run.proofs.ChangesFloor.{not_behind}
use Rattle.warp_run.proofs.ChangesEvents.{all_through, one_through}
use Rattle.warp_run.proofs.SkipsKept.{cut_free}
use Rattle.warp_run.proofs.ChangesStand.{never_from, same_room, undone_from}
use Rattle.warp_run.proofs.warp.Warp.put_last.Goals as goal

pub let_go_before-requires : goal.let_go_before-requires
let_go_before-requires c =
    let last = λ (w : Warp). is_after w.tip.last c.args.tag in
    ap last c.note_change.ensures ∙ ap last c.come_in-place.ensures.changed.others ∙ c.requires.later

pub note_hint-requires : goal.note_hint-requires
note_hint-requires c =
    subst (λ (a : Contents). IsSome (entry_of c.come_in-place.result a.places)) (sym (ap (λ (w : Warp). w.arena) c.note_change.ensures))
    c.come_in-place.ensures.entry

pub returns-clause-floor : goal.returns-clause-floor
returns-clause-floor c =
    let floor = λ (w : Warp). w.tip.floor in
    ap (λ (x : Tip). x.floor) c.let_go_before.ensures.others ∙ ap floor c.note_change.ensures ∙ ap floor c.come_in-place.ensures.changed.others

pub returns-clause-stands : goal.returns-clause-stands
returns-clause-stands c = λ m h good.
    let changed = rw (to_z-of_z w64 c.args.value c.ranges.value) at c.come_in-place.ensures.changed in
    let latest = c.args.self.now.latest in
    let fits = events_pass (event_fits m.program) c.args.origin c.args.tag c.args.input c.args.value m.table h.events good in
    let through = events_pass (λ e. not (is_after (latest_with c.args.tag latest) e.tag)) c.args.origin c.args.tag c.args.input c.args.value m.table
    (all_through c.args.tag latest _ h.latest) (one_through c.args.tag latest) in
    let noted = c.note_change.ensures in
    let go = c.let_go_before.ensures in
    let kept = c.note_hint.ensures.same ∙ ap (λ (w : Warp). w.arena) noted in
    let last = ap (λ (x : Tip). x.last) go.others ∙ ap (λ (w : Warp). w.tip.last) noted in
    let skips = c.note_change.new.self.skips in
    let cut = subst (λ s. IsCut c.args.tag s skips) (ap (λ (w : Warp). w.skips) changed.others)
    (subst (IsCut c.args.tag c.come_in-place.new.self.skips) (sym (ap (λ (w : Warp). w.skips) noted)) c.cut.ensures) in
    let free = events_pass (λ e. not (covers skips e.tag)) c.args.origin c.args.tag c.args.input c.args.value m.table
    (cut_free c.args.tag _ _ cut _ h.skips) (ap not cut.apart) in
    undone_from (with_event c.args.input c.args.value) (with_event_names c.args.input c.args.value) changed
    (not_behind c.args.self.now.tip.floor c.args.tag c.requires.ahead) h (λ same. let no : Some _ ≡ None = same in cc) fits through
    (record c.note_change.new.self { arena = c.note_hint.new.self; tip = c.let_go_before.new.self }) kept
    (ap (λ (x : Tip). x.floor) go.others ∙ ap (λ (w : Warp). w.tip.floor) noted)
    (ap (λ (w : Warp). w.latest) noted)
    (ap (λ (w : Warp). w.settled) noted)
    (λ P E done executed. go.kept P E done (subst (λ x. HasExecuted P E x done) (sym (ap (λ (w : Warp). w.tip) noted)) executed))
    (λ stood.
    let old = c.come_in-place.new.self in
    let at_arena = subst (λ (a : Contents). Reaches a.places (ahead old.tip.last a.places) old.cursor) (sym kept) stood in
    let at_last = subst (λ l. Reaches c.note_hint.new.self.places (ahead l c.note_hint.new.self.places) old.cursor) (sym last) at_arena in
    subst (Reaches c.note_hint.new.self.places (ahead c.let_go_before.new.self.last c.note_hint.new.self.places)) (sym (ap (λ (w : Warp). w.cursor) noted)) at_last)
    free

pub returns-clause-settled : goal.returns-clause-settled
returns-clause-settled c = λ m h good same.
    let changed = rw (to_z-of_z w64 c.args.value c.ranges.value) at c.come_in-place.ensures.changed in
    absurd (never_from (with_event c.args.input c.args.value) (with_event_names c.args.input c.args.value) changed
    (not_behind c.args.self.now.tip.floor c.args.tag c.requires.ahead) h (λ alike. let no : Some _ ≡ None = alike in cc) same)

pub returns-clause-room : goal.returns-clause-room
returns-clause-room c =
    let others = c.come_in-place.ensures.changed.others in
    let noted = c.note_change.ensures in
    let tips = ap (λ (w : Warp). w.tip) noted ∙ ap (λ (w : Warp). w.tip) others in
    same_room c.args.self.now (record c.note_change.new.self { arena = c.note_hint.new.self; tip = c.let_go_before.new.self })
    (ap (λ (a : Contents). a.room) (c.note_hint.ensures.same ∙ ap (λ (w : Warp). w.arena) noted) ∙ c.come_in-place.ensures.room)
    (subst (λ (x : Tip). KeepsRoom x c.let_go_before.new.self) tips c.let_go_before.ensures.room)
    (ap (λ (w : Warp). w.given) noted ∙ ap (λ (w : Warp). w.given) others)
