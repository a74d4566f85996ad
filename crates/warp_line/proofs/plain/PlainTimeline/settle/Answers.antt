-- no run has so many rows, so it comes to the end
use Rattle.std.proofs.Common.{arith}
use Rattle.warp_line.proofs.PlainLemmas.{all_settled}
use Rattle.warp_line.proofs.plain.PlainTimeline.settle.Goals as goal

pub returns-clause-stands : goal.returns-clause-stands
returns-clause-stands g c = λ m h same.
    let some = c.in_ok-_progress.ensures.stands m h same in
    let all = all_settled c.settle_some.new.self m _ 18446744073709551615 some.0 c.in_ok-_progress._progress some.1 (omega arith)
    (λ paused. let ticked = (c.in_ok-_progress.ensures.paused paused).0 in omega arith) in
    (some.0, some.1, some.2.0 all)

pub returns-clause-settled : goal.returns-clause-settled
returns-clause-settled g c =
    let m = c.requires.0 in
    let some = c.in_ok-_progress.ensures.stands m c.requires.1 c.requires.2 in
    c.in_ok-_progress.ensures.settled
    (all_settled c.settle_some.new.self m _ 18446744073709551615 some.0 c.in_ok-_progress._progress some.1 (omega arith)
    (λ paused. let ticked = (c.in_ok-_progress.ensures.paused paused).0 in omega arith))
