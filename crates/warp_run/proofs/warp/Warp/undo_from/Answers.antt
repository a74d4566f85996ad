use Rattle.std.proofs.Common.{sym, ap, subst}
use Rattle.warp_run.specs.Tip.{HasExecuted}
use Rattle.warp_run.specs.declared.warp.Warp.{Warp}
use Rattle.warp_run.proofs.warp.Warp.undo_from.Goals as goal

-- what is executed is not touched before
pub returns-else-not-is_after-clause-tip : goal.returns-else-not-is_after-clause-tip
returns-else-not-is_after-clause-tip c P E done executed =
    c.let_go_before.ensures.kept P E done
    (subst (λ x. HasExecuted P E x done) (sym (ap (λ (w : Warp). w.tip) c.note_change.ensures)) executed)
