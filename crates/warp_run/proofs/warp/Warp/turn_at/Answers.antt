-- the row at the next tag is done, with what all events at it give, and the cursor goes behind it
use Rattle.std.proofs.Common.{◌++◌, ap, ◌∙◌, refl, arith}
use Rattle.warp_run.specs.Walk.{ahead}
use Rattle.warp_run.proofs.PlacesWalks.{reaches_as}
use Rattle.warp_run.proofs.TurnsRow.{are_few, given_through, is_at, may_give, may_step, row_done, row_failed, same_tip}
use Rattle.warp_run.proofs.warp.Warp.turn_at.Goals as goal

pub returns-in_err-cursor-clause-goes : goal.returns-in_err-cursor-clause-goes
returns-in_err-cursor-clause-goes g c =
    row_failed c.args.program.now c.args.self.now _ _ refl refl refl refl refl (same_tip c.args.self.now.tip) (omega arith)

pub get_ready-requires : goal.get_ready-requires
get_ready-requires g c = is_at c.args.program.now c.args.self.now c.args.tag c.requires.next

pub returns-in_err-get_ready-clause-goes : goal.returns-in_err-get_ready-clause-goes
returns-in_err-get_ready-clause-goes g c =
    row_failed c.args.program.now c.args.self.now _ _ refl refl refl refl refl c.get_ready.ensures.same (omega arith)

pub cursor_at-self-requires : goal.cursor_at-self-requires
cursor_at-self-requires g c =
    let w = c.args.self.now in
    (c.in_ok-cursor.ensures (ahead w.tip.last w.arena.places) (reaches_as _ _ _ _ c.node.ensures c.requires.next.1.cursor)).0.used

pub step-requires-clause-at : goal.step-requires-clause-at
step-requires-clause-at g c =
    let w = c.args.self.now in
    let gathered = c.in_ok-cursor.ensures (ahead w.tip.last w.arena.places) (reaches_as _ _ _ _ c.node.ensures c.requires.next.1.cursor) in
    may_step c.args.program.now w c.args.tag c.requires.next c.get_ready.new.self c.deref.result.now c.get_ready.ensures.same
    (c.deref.ensures.value ∙ gathered.1 ∙ ap (λ xs. xs ++ given_through w c.args.tag) c.clear.ensures.items)

pub step-requires-clause-given : goal.step-requires-clause-given
step-requires-clause-given g c =
    let w = c.args.self.now in
    let gathered = c.in_ok-cursor.ensures (ahead w.tip.last w.arena.places) (reaches_as _ _ _ _ c.node.ensures c.requires.next.1.cursor) in
    may_give c.args.program.now w c.args.tag c.requires.next c.deref.result.now
    (c.deref.ensures.value ∙ gathered.1 ∙ ap (λ xs. xs ++ given_through w c.args.tag) c.clear.ensures.items) c.ordered.ensures.order

pub step-requires-clause-few : goal.step-requires-clause-few
step-requires-clause-few g c =
    are_few c.args.program.now c.args.self.now c.args.tag c.requires.next c.get_ready.new.self c.get_ready.ensures.same

pub returns-clause-goes : goal.returns-clause-goes
returns-clause-goes g c =
    let w = c.args.self.now in
    let did = c.step.ensures in
    let ticked = did.ticked in
    let gathered = c.in_ok-cursor.ensures (ahead w.tip.last w.arena.places) (reaches_as _ _ _ _ c.node.ensures c.requires.next.1.cursor) in
    row_done c.args.program.now w c.args.tag c.requires.next _ c.get_ready.new.self c.deref.result.now _ c.get_ready.ensures.same
    (c.deref.ensures.value ∙ gathered.1 ∙ ap (λ xs. xs ++ given_through w c.args.tag) c.clear.ensures.items)
    c.requires.unsettled refl refl refl refl did.last did.floor (reaches_as _ _ _ _ c.cursor_at-self.ensures gathered.0) did.stepped (omega arith)
