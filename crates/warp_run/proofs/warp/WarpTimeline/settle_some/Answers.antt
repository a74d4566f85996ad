-- the rows that were executed are done, and where all are, the last tag is the latest
use Rattle.std.proofs.Common.{◌≡◌, ℕ, ◌-◌, ◌++◌, Option, arith, refl, sym, subst, ◌∙◌}
use Rattle.std.proofs.lemmas.Result.{IfOk-from_err}
use Rattle.warp_tag.specs.Moment.{Moment}
use Rattle.warp_tag.specs.Table.{live}
use Rattle.warp_line.specs.Timeline.{Standing, IsDone, Settles}
use Rattle.warp_run.specs.Walk.{AreThrough}
use Rattle.warp_run.specs.Warp.{StandsFor}
use Rattle.warp_run.proofs.TurnsGoing.{done_through, settled_again, settles}
use Rattle.warp_run.proofs.TurnsStep.{stands_on}
use Rattle.warp_run.proofs.warp.WarpTimeline.settle_some.Goals as goal

pub returns-then-self-clause-stands : goal.returns-then-self-clause-stands
returns-then-self-clause-stands g c = λ m h same.
    let ticks = g.M.Meter.ticks c.args.meter.now in
    let nothing : ticks - ticks ≡ 0 = omega arith in (
      m.done,
      subst (λ (n : ℕ). Settles StandsFor c.args.self.now m n m.done) (sym nothing)
          (settled_again c.args.self.now m h),
      ((λ settled. h.settled c.if-self.true), (λ done. refl)),
    )

pub returns-in_err-catch_up_some-clause-stands : goal.returns-in_err-catch_up_some-clause-stands
returns-in_err-catch_up_some-clause-stands g c = λ m h same.
    let goes = c.catch_up_some.ensures.goes m h same in (
      m.done ++ goes.0,
      settles c.catch_up_some.new.self m goes.0 _ goes.1 goes.2,
      IfOk-from_err c.from_residual.result _ c.from_residual.ensures.0,
    )

pub returns-in-Paused-clause-stands : goal.returns-in-Paused-clause-stands
returns-in-Paused-clause-stands g c = λ m h same.
    let goes = c.catch_up_some.ensures.goes m h same in
    let n : Standing = record m { done = m.done ++ goes.0 } in
    let told = c.in_ok-catch_up_some.ensures.done n goes.1 same in (
      n.done,
      settles c.catch_up_some.new.self m goes.0 _ goes.1 goes.2,
      ((λ settled. told.0 (c.in-Paused.is ∙ settled)), (λ done. sym c.in-Paused.is ∙ told.1 done)),
    )

pub returns-in-Settled-clause-stands : goal.returns-in-Settled-clause-stands
returns-in-Settled-clause-stands g c = λ m h same.
    let v = c.catch_up_some.new.self in
    let goes = c.catch_up_some.ensures.goes m h same in
    let n : Standing = record m { done = m.done ++ goes.0 } in
    let done : IsDone n = (c.in_ok-catch_up_some.ensures.done n goes.1 same).0 c.in-Settled.is in
    let latest = subst (λ (l : Option Moment). AreThrough l (live m.table)) (sym c.last-self.ensures) (done_through v n goes.1 done) in
    let stands = stands_on v _ n n.done goes.1 refl refl goes.1.tip goes.1.cursor latest (λ settled. done) refl in
    (n.done, settles _ m goes.0 _ stands goes.2, ((λ settled. done), (λ all. refl)))
