use Rattle.std.proofs.Common.{arith}
use Rattle.warp_world.specs.Schedule.{count_words}
use Rattle.warp_world.proofs.MoveWords.{plain_count}
use Rattle.warp_world.proofs.ScheduleLines.{line_of_words, no_first, words_of_first}
use Rattle.warp_world.proofs.schedule.read_count.Goals as goal

pub returns-in_err-text-clause-none : goal.returns-in_err-text-clause-none
returns-in_err-text-clause-none c =
    rw c.from_residual.ensures
    (λ count rest fits is.
    no_first c.args.bytes.now rest (count_words count) c.in_err-text.ensures.none (plain_count count fits) is)

pub returns-in_err-count-clause-none : goal.returns-in_err-count-clause-none
returns-in_err-count-clause-none c =
    let cut = c.in_ok-text.ensures.found in
    rw c.from_residual-in_err-count.ensures
    (λ count rest fits is.
    let first = words_of_first c.args.bytes.now c.in_ok-text.text.now c.in_ok-text.rest.now rest (count_words count) cut.0 cut.1
    (omega arith) (plain_count count fits) is in
    c.in_err-count.ensures.none count fits first.0)

pub returns-clause-found : goal.returns-clause-found
returns-clause-found c =
    let cut = c.in_ok-text.ensures.found in
    let found = c.in_ok-count.ensures.found in
    (found.0, line_of_words c.args.bytes.now c.in_ok-text.text.now c.in_ok-text.rest.now (count_words c.in_ok-count.count) cut.1 found.1)
