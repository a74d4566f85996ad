use Rattle.warp_world.specs.Moves.{move_words}
use Rattle.warp_world.proofs.MoveWords.{few_words, plain_move}
use Rattle.warp_world.proofs.ScheduleLines.{line_of_words, no_first, words_of_first}
use Rattle.warp_world.proofs.schedule.read_move.Goals as goal

pub returns-in_err-text-clause-none : goal.returns-in_err-text-clause-none
returns-in_err-text-clause-none c =
    rw c.from_residual.ensures
    (λ next rest fits is. no_first c.args.bytes.now rest (move_words next) c.in_err-text.ensures.none (plain_move c.args.form next fits) is)

pub returns-in_err-next-clause-none : goal.returns-in_err-next-clause-none
returns-in_err-next-clause-none c =
    let cut = c.in_ok-text.ensures.found in
    rw c.from_residual-in_err-next.ensures
    (λ next rest fits is.
    let first = words_of_first c.args.bytes.now c.in_ok-text.text.now c.in_ok-text.rest.now rest (move_words next) cut.0 cut.1
    (few_words next).0 (plain_move c.args.form next fits) is in
    c.in_err-next.ensures.none next fits first.0)

pub returns-clause-found : goal.returns-clause-found
returns-clause-found c =
    let cut = c.in_ok-text.ensures.found in
    let found = c.in_ok-next.ensures.found in
    (found.0, line_of_words c.args.bytes.now c.in_ok-text.text.now c.in_ok-text.rest.now (move_words c.in_ok-next.next) cut.1 found.1)
