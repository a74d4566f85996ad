use Rattle.std.proofs.Common.{ℕ, refl, sym, ap, subst, ◌∙◌, arith}
use Rattle.warp_step.specs.Program.{Program}
use Rattle.warp_replica.specs.Answered.{facts_of}
use Rattle.warp_room.specs.Own.{ClosesFirst}
use Rattle.warp_room.proofs.OwnLines.{next_closed, none_closed}
use Rattle.warp_room.proofs.Runs.{runs_keeping}
use Rattle.warp_room.proofs.room.Room.close_each.Goals as goal

pub loop-origin-init : goal.loop-origin-init
loop-origin-init g c = (none_closed (facts_of g.T.Timeline.settled g.T.Timeline.refused g.T.Timeline.floor g.T.Timeline.SLACK) c.args.tag c.args.self.now, refl)

pub close_kept-requires : goal.close_kept-requires
close_kept-requires g c =
    let program = c.program.ensures ∙ ap (λ r. r.replica.program) c.self.view_is ∙ sym c.loop-origin.invariant.1 in
    let origins = ap (λ (P : Program). P.origins) program in
    omega (arith, c.loop-origin-test.true, c.origins-origins.ensures, origins)

pub loop-origin-preserved : goal.loop-origin-preserved
loop-origin-preserved g c =
    let facts = facts_of g.T.Timeline.settled g.T.Timeline.refused g.T.Timeline.floor g.T.Timeline.SLACK in
    let next = next_closed facts c.args.tag c.loop-origin.origin c.args.self.now c.loop-origin.self c.close_kept.new.self c.loop-origin.invariant.0
    c.in_default.ensures.closed in
    (next, (runs_keeping facts next.steps c.args.self.now c.close_kept.new.self next.runs).1)

pub returns-in-Err-clause-err : goal.returns-in-Err-clause-err
returns-in-Err-clause-err g c =
    (c.loop-origin.origin, c.loop-origin.self, c.loop-origin.invariant.0, c.in-Err.ensures.err)

pub returns-clause-closed : goal.returns-clause-closed
returns-clause-closed g c =
    let facts = facts_of g.T.Timeline.settled g.T.Timeline.refused g.T.Timeline.floor g.T.Timeline.SLACK in
    let origins = ap (λ (P : Program). P.origins) (c.program.ensures ∙ ap (λ r. r.replica.program) c.self.view_is) in
    subst (λ (n : ℕ). ClosesFirst facts c.args.tag n c.args.self.now c.loop-origin.self)
    (omega (arith, c.loop-origin-test.false, c.loop-origin.auto.origin-end, c.origins-origins.ensures, origins)) c.loop-origin.invariant.0
