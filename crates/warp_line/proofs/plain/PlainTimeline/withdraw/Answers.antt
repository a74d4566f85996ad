-- the table has the withdrawal, and the rows stay done where the live events stayed
use Rattle.std.proofs.Common.{refl}
use Rattle.warp_tag.specs.Table.{with_withdrawal}
use Rattle.warp_tag.proofs.Tables.{withdrawal_passes}
use Rattle.warp_step.specs.Events.{event_fits}
use Rattle.warp_line.proofs.PlainLemmas.{note_stands, stays_settled}
use Rattle.warp_line.proofs.plain.PlainTimeline.withdraw.Goals as goal

pub returns-clause-stands : goal.returns-clause-stands
returns-clause-stands c = λ m h good.
    let e = c.note_withdrawal.ensures in
    let fits = withdrawal_passes (event_fits m.program) c.args.origin c.args.tag m.table h.events in
    note_stands c.args.self.now _ m with_withdrawal c.args.origin c.args.tag c.note_withdrawal.result
    h e.table e.ordered e.same e.changes fits refl refl refl

pub returns-clause-settled : goal.returns-clause-settled
returns-clause-settled c = λ m h good same.
    let e = c.note_withdrawal.ensures in
    stays_settled c.args.self.now _ _ m with_withdrawal c.args.origin c.args.tag c.note_withdrawal.result h e.table e.changes refl same
