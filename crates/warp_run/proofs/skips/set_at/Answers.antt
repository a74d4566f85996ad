use Rattle.warp_run.proofs.SkipsKept.{any_set}
use Rattle.warp_run.proofs.skips.set_at.Goals as goal

pub returns-then-place-skips : goal.returns-then-place-skips
returns-then-place-skips c = any_set c.args.skips.now c.args.place c.args.skip
