use Rattle.warp_world.proofs.MoveReadings.{short_words}
use Rattle.warp_world.proofs.schedule.read_short.Goals as goal

pub returns-in_err-replica-clause-none : goal.returns-in_err-replica-clause-none
returns-in_err-replica-clause-none c =
    rw c.from_residual.ensures
    (λ next fits are.
    let told = short_words c.args.form c.args.word.now c.args.replica.now next fits are in
    c.in_err-replica.ensures.none told.0 told.1 told.2)
