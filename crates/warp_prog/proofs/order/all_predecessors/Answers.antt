use Rattle.warp_step.specs.View.{program_of}
use Rattle.warp_prog.specs.inner.Placing.{numbers_of}
use Rattle.warp_prog.proofs.PlacingLemmas.{lists-more}
use Rattle.warp_prog.proofs.order.all_predecessors.Goals as goal

pub loop-n-preserved : goal.loop-n-preserved
loop-n-preserved c =
    lists-more numbers_of c.loop-n.all.items c.push.new.self.items c.in_ok-before.before (program_of c.args.parts.now) c.loop-n.n
    c.in_ok-push.ensures.items c.loop-n.invariant c.in_ok-before.ensures
