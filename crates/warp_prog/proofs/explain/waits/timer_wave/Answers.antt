use Rattle.std.proofs.Common.{ap, map, ◌∙◌}
use Rattle.warp_prog.specs.Waits.{passage_of}
use Rattle.warp_prog.specs.inner.Spread.{is_marked}
use Rattle.warp_prog.proofs.WaitLemmas.{spread_is}
use Rattle.warp_prog.proofs.explain.waits.timer_wave.Goals as goal

pub returns : goal.returns
returns c =
    let ps = map passage_of c.args.routes.now in
    ap (λ test. record { timer = c.args.timer.now; leads_to = test }) (ap is_marked c.in_ok-reached.ensures ∙ spread_is ps c.args.place)
