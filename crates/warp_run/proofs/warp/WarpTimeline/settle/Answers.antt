-- the rows that were executed are done, and where all are, the last tag is the latest
use Rattle.std.proofs.Common.{◌≡◌, ℕ, ◌-◌, ◌++◌, Option, arith, refl, sym, subst}
use Rattle.warp_tag.specs.Moment.{Moment}
use Rattle.warp_tag.specs.Table.{live}
use Rattle.warp_line.specs.Timeline.{Standing, IsDone, Settles}
use Rattle.warp_run.specs.Walk.{AreThrough}
use Rattle.warp_run.specs.Warp.{StandsFor}
use Rattle.warp_run.proofs.TurnsGoing.{done_through, of_error, settled_again, settles}
use Rattle.warp_run.proofs.TurnsStep.{stands_on}
use Rattle.warp_run.proofs.warp.WarpTimeline.settle.Goals as goal

pub returns-in_err-catch_up-clause-stands : goal.returns-in_err-catch_up-clause-stands
returns-in_err-catch_up-clause-stands g c = λ m h same.
    let goes = c.catch_up.ensures.goes m h same in
    let done = m.done ++ goes.0 in (
      done,
      settles c.catch_up.new.self m goes.0 _ goes.1 goes.2,
      of_error c.from_residual.result
          (IsDone (record m { done = done })) c.from_residual.ensures.0,
    )

pub returns-in_ok-catch_up-clause-stands : goal.returns-in_ok-catch_up-clause-stands
returns-in_ok-catch_up-clause-stands g c = λ m h same.
    let v = c.catch_up.new.self in
    let goes = c.catch_up.ensures.goes m h same in
    let n : Standing = record m { done = m.done ++ goes.0 } in
    let done : IsDone n = c.in_ok-catch_up.ensures.done n goes.1 same in
    let latest = subst (λ (l : Option Moment). AreThrough l (live m.table)) (sym c.last-self.ensures) (done_through v n goes.1 done) in
    let stands = stands_on v _ n n.done goes.1 refl refl goes.1.tip goes.1.cursor latest (λ settled. done) refl in
    (n.done, settles _ m goes.0 _ stands goes.2, done)

pub returns-else-not-self-clause-stands : goal.returns-else-not-self-clause-stands
returns-else-not-self-clause-stands g c = λ m h same.
    let ticks = g.M.Meter.ticks c.args.meter.now in
    let nothing : ticks - ticks ≡ 0 = omega arith in (
      m.done,
      subst (λ (n : ℕ). Settles StandsFor c.args.self.now m n m.done) (sym nothing)
          (settled_again c.args.self.now m h),
      h.settled c.if-not-self.false,
    )
