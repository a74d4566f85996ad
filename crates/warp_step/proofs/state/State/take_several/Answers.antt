-- where nothing was present before, whom all that is present concerns is due, and no reaction was sure
use Rattle.std.proofs.Common.{◌≡◌, sym, ap, ◌∙◌, arith}
use Rattle.warp_body.specs.Presence.{places_of}
use Rattle.warp_step.specs.Step.{absent, arrived_entries, without_entries}
use Rattle.warp_step.proofs.RepeatLemmas.{absent_due, absent_places}
use Rattle.warp_step.proofs.TriggeredTurnLemmas.{none_sure}
use Rattle.warp_step.proofs.TakenLemmas.{here, repeat_here}
use Rattle.warp_step.proofs.TargetsOfStep.{fit_targets}
use Rattle.warp_step.proofs.state.State.take_several.Goals as goal

pub take_each-requires-clause-places : goal.take_each-requires-clause-places
take_each-requires-clause-places c = ap places_of c.requires.absent ∙ absent_places c.args.program.now c.args.tag

pub returns-clause-state : goal.returns-clause-state
returns-clause-state c =
    let P = c.args.program.now in
    let t = c.args.tag in
    let s = c.args.self.now in
    let arrives : c.take_each.new.present ≡ arrived_entries (here t s.pending) (absent P t) =
    c.take_each.ensures.present ∙ ap (arrived_entries (here t s.pending)) c.requires.absent in
    c.take_each.ensures.state
    ∙ sym (repeat_here P t s.pending (without_entries t s) c.take_each.new.present c.take_each.ensures.order
    (fit_targets P s.pending c.requires.state.entries) arrives)

pub returns-clause-present : goal.returns-clause-present
returns-clause-present c = c.take_each.ensures.present ∙ ap (arrived_entries (here c.args.tag c.args.self.now.pending)) c.requires.absent

pub returns-clause-due : goal.returns-clause-due
returns-clause-due c = c.take_each.ensures.due (absent_due c.args.program.now c.args.tag c.args.present.now _ c.requires.absent)

pub returns-clause-triggered_turn : goal.returns-clause-triggered_turn
returns-clause-triggered_turn c = c.take_each.ensures.triggered_turn (none_sure c.args.program.now c.args.present.now _ c.valid.ensures (omega arith))
