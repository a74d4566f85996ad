-- what is left adds what all add
use Rattle.std.proofs.Common.{◌≡◌, ◌++◌, drop}
use Rattle.warp_trace.specs.Trace.{put}
use Rattle.warp_trace.proofs.item.gather_put.Given as goal

abbrev pub invariant-loop-output : goal.invariant-loop-output
invariant-loop-output l = l.items.items ++ put (drop l.output-index l.outputs) ≡ put l.outputs
