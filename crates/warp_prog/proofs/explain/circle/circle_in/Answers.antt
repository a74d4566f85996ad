-- what turns back among those before is a circle of the program
use Rattle.std.proofs.Common.{◌≡◌, true, map}
use Rattle.std.proofs.lemmas.Result.{IfOk-weaker}
use Rattle.warp_step.specs.View.{program_of}
use Rattle.warp_prog.specs.inner.Circle.{is_circle, turns_back}
use Rattle.warp_prog.specs.inner.Placing.{numbers_of, awaits}
use Rattle.warp_prog.proofs.CircleLemmas.{circle-so}
use Rattle.warp_prog.proofs.explain.circle.circle_in.Goals as goal

pub returns : goal.returns
returns c =
    let P = program_of c.args.parts.now in
    let before = map numbers_of c.in_ok-placing.placing.before.items in
    IfOk-weaker c.circle_among.result (λ circle. turns_back (awaits before) circle.items ≡ true) (λ circle. is_circle P circle.items ≡ true)
    (λ circle. circle-so P before circle.items c.in_ok-placing.ensures.before) (rw c.deref.ensures.value at c.circle_among.ensures)
