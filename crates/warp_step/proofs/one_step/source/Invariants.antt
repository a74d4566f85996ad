-- the source by the links that are left is that by all
use Rattle.std.proofs.Common.{◌≡◌, drop}
use Rattle.warp_step.specs.Step.{source_of}
use Rattle.warp_step.proofs.one_step.source.Given as goal

abbrev pub invariant-loop-link : goal.invariant-loop-link
invariant-loop-link l = source_of (drop l.link-index l.links) l.port ≡ source_of l.links l.port
