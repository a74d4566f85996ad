use Rattle.std.proofs.Common.{◌∷◌, [], ◌++◌, ap, sym, ◌∙◌}
use Rattle.warp_prog.proofs.PlacingLemmas.{range-more}
use Rattle.warp_prog.proofs.order.file_order.Goals as goal

pub loop-n-preserved : goal.loop-n-preserved
loop-n-preserved c = c.in_ok-push.ensures.items ∙ ap (λ ns. ns ++ c.loop-n.n ∷ []) c.loop-n.invariant ∙ sym (range-more c.loop-n.n)
