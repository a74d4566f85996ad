-- the row at the next tag is done with nothing given, and the cursor stays
use Rattle.std.proofs.Common.{refl, sym, arith}
use Rattle.warp_run.specs.Walk.{ahead}
use Rattle.warp_run.proofs.PlacesWalks.{reaches_as}
use Rattle.warp_run.proofs.TurnsRow.{are_few, is_at, may_give, may_step, row_done, row_failed}
use Rattle.warp_run.proofs.warp.Warp.turn_at_entry.Goals as goal

pub get_ready-requires : goal.get_ready-requires
get_ready-requires g c = is_at c.args.program.now c.args.self.now c.args.tag c.requires.next

pub returns-in_err-get_ready-clause-goes : goal.returns-in_err-get_ready-clause-goes
returns-in_err-get_ready-clause-goes g c =
    row_failed c.args.program.now c.args.self.now _ _ refl refl refl refl refl c.get_ready.ensures.same (omega arith)

pub step-requires-clause-at : goal.step-requires-clause-at
step-requires-clause-at g c =
    let w = c.args.self.now in
    let past = c.is_past.ensures c.if-not-is_past.false (ahead w.tip.last w.arena.places) (reaches_as _ _ _ _ c.node.ensures c.requires.next.1.cursor) in
    may_step c.args.program.now w c.args.tag c.requires.next c.get_ready.new.self _ c.get_ready.ensures.same (sym past.1)

pub step-requires-clause-given : goal.step-requires-clause-given
step-requires-clause-given g c =
    let w = c.args.self.now in
    let past = c.is_past.ensures c.if-not-is_past.false (ahead w.tip.last w.arena.places) (reaches_as _ _ _ _ c.node.ensures c.requires.next.1.cursor) in
    may_give c.args.program.now w c.args.tag c.requires.next _ (sym past.1) c.ordered.ensures.order

pub step-requires-clause-few : goal.step-requires-clause-few
step-requires-clause-few g c =
    are_few c.args.program.now c.args.self.now c.args.tag c.requires.next c.get_ready.new.self c.get_ready.ensures.same

pub returns-clause-goes : goal.returns-clause-goes
returns-clause-goes g c =
    let w = c.args.self.now in
    let did = c.step.ensures in
    let ticked = did.ticked in
    let past = c.is_past.ensures c.if-not-is_past.false (ahead w.tip.last w.arena.places) (reaches_as _ _ _ _ c.node.ensures c.requires.next.1.cursor) in
    row_done c.args.program.now w c.args.tag c.requires.next _ c.get_ready.new.self _ _ c.get_ready.ensures.same (sym past.1)
    c.requires.unsettled refl refl refl refl did.last did.floor (reaches_as _ _ _ _ (sym c.node.ensures) past.0) did.stepped (omega arith)
