-- One origin more.
use Rattle.warp_watch.proofs.TextLines.{origin_more}
use Rattle.warp_watch.proofs.lines.add_broken.Goals as goal

pub loop-origin-preserved : goal.loop-origin-preserved
loop-origin-preserved g c = λ a answers.
    origin_more a.broken c.loop-origin.origin c.is_broken.result c.args.text.now.items c.loop-origin.text.items c.add_origin.new.text.items
    (c.is_broken.ensures a answers) (c.loop-origin.invariant a answers) c.in_ok-add_origin.ensures
