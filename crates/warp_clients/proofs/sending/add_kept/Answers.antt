use Rattle.warp_keep.specs.Keeping.{keeps}
use Rattle.warp_clients.proofs.SentEnds.{kept_more}
use Rattle.warp_clients.proofs.sending.add_kept.Goals as goal

pub loop-origin-preserved : goal.loop-origin-preserved
loop-origin-preserved c =
    kept_more (keeps c.args.keeping.now) c.loop-origin.origin c.keeps.result c.args.text.now.items c.loop-origin.text.items c.add_origin.new.text.items
    c.keeps.ensures c.loop-origin.invariant c.in_ok-add_origin.ensures
