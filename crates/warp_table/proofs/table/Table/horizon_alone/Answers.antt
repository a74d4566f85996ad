-- one origin more reaches less far, or as far at least
use Rattle.std.proofs.Common.{◌+◌, sym, subst, ◌∙◌}
use Rattle.warp_tag.specs.Moment.{Moment}
use Rattle.warp_table.specs.Records.{Records, set_of}
use Rattle.warp_table.proofs.LeastReach.{IsLeastReach, lesser_reach, same_reach}
use Rattle.warp_table.proofs.table.Table.horizon_alone.Goals as goal
use Rattle.warp_table.proofs.table.Table.horizon_alone.Goals.{then-is_before, else-is_before}

pub loop-origin-preserved : goal.loop-origin-preserved
loop-origin-preserved c =
    let S : Records = set_of c.args.self.now in
    let count = c.loop-origin.origin in
    let end = c.loop-origin.end in
    let own = c.reached_alone-own.result in
    elim c.if-is_before.branch [
      | then-is_before w ↦ subst (λ (e : Moment). IsLeastReach S (count + 1) e) (sym w.end-is)
          (lesser_reach S count end own c.loop-origin.invariant c.reached_alone-own.ensures (sym c.is_before.ensures ∙ w.if-is_before.true))
      | else-is_before w ↦ subst (λ (e : Moment). IsLeastReach S (count + 1) e) (sym w.end-is)
          (same_reach S count end own c.loop-origin.invariant c.reached_alone-own.ensures (sym c.is_before.ensures ∙ w.if-is_before.false))
    ]
