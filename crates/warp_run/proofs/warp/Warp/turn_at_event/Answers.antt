-- the row at the next tag is done with what the event there gives, and the cursor goes behind it
use Rattle.std.proofs.Common.{◌∙◌, refl, arith}
use Rattle.warp_arena.specs.Places.{places_after}
use Rattle.warp_run.proofs.PlacesWalks.{reaches_as}
use Rattle.warp_run.proofs.TurnsRow.{alone_given, are_few, cursor_behind, is_at, may_give, may_step, row_done, row_failed}
use Rattle.warp_run.proofs.warp.Warp.turn_at_event.Goals as goal

pub get_ready-requires : goal.get_ready-requires
get_ready-requires g c = is_at c.args.program.now c.args.self.now c.args.first.now.tag c.requires.next

pub returns-in_err-get_ready-clause-goes : goal.returns-in_err-get_ready-clause-goes
returns-in_err-get_ready-clause-goes g c =
    row_failed c.args.program.now c.args.self.now _ _ refl refl refl refl refl c.get_ready.ensures.same (omega arith)

pub cursor_at-self-requires : goal.cursor_at-self-requires
cursor_at-self-requires g c = c.next-behind.ensures.used

pub step-requires-clause-at : goal.step-requires-clause-at
step-requires-clause-at g c =
    let w = c.args.self.now in
    let l = c.args.first.now in
    let past = c.is_past.ensures c.if-not-is_past.false (places_after l.node w.arena.places) c.next-behind.ensures in
    may_step c.args.program.now w l.tag c.requires.next c.get_ready.new.self _ c.get_ready.ensures.same (c.from_ref-alone.ensures.value ∙ alone_given w l c.requires.event past.1)

pub step-requires-clause-given : goal.step-requires-clause-given
step-requires-clause-given g c =
    let w = c.args.self.now in
    let l = c.args.first.now in
    let past = c.is_past.ensures c.if-not-is_past.false (places_after l.node w.arena.places) c.next-behind.ensures in
    may_give c.args.program.now w l.tag c.requires.next _ (c.from_ref-alone.ensures.value ∙ alone_given w l c.requires.event past.1) c.ordered.ensures.order

pub step-requires-clause-few : goal.step-requires-clause-few
step-requires-clause-few g c =
    are_few c.args.program.now c.args.self.now c.args.first.now.tag c.requires.next c.get_ready.new.self c.get_ready.ensures.same

pub returns-clause-goes : goal.returns-clause-goes
returns-clause-goes g c =
    let w = c.args.self.now in
    let l = c.args.first.now in
    let did = c.step.ensures in
    let ticked = did.ticked in
    let past = c.is_past.ensures c.if-not-is_past.false (places_after l.node w.arena.places) c.next-behind.ensures in
    row_done c.args.program.now w l.tag c.requires.next _ c.get_ready.new.self c.from_ref-alone.result.now _ c.get_ready.ensures.same (c.from_ref-alone.ensures.value ∙ alone_given w l c.requires.event past.1)
    c.requires.unsettled refl refl refl refl did.last did.floor (reaches_as _ _ _ _ c.cursor_at-self.ensures (cursor_behind w l c.requires.event _ past.0)) did.stepped (omega arith)
