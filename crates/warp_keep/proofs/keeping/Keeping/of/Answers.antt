use Rattle.std.proofs.Common.{true, refl, ◌∙◌, arith}
use Rattle.std.proofs.lemmas.List.{length-set}
use Rattle.warp_keep.proofs.Flags.{none_set, one_more}
use Rattle.warp_keep.proofs.keeping.Keeping.of.Goals as goal

pub loop-origin-init : goal.loop-origin-init
loop-origin-init c = (refl, none_set 64)

pub loop-origin-preserved : goal.loop-origin-preserved
loop-origin-preserved c =
    let before = c.loop-origin.invariant in (
      length-set c.loop-origin.flags _ true ∙ before.0,
      one_more c.loop-origin.flags c.args.origins.now c.loop-origin.origin-index 0 c.loop-origin-test.true
          (omega (arith, before.0, c.if-place-ge-MOST_ORIGINS.false)) before.1,
    )
