-- the sources so far, and then those of the links that are left, are those of all links
use Rattle.std.proofs.Common.{◌≡◌, ◌++◌, drop}
use Rattle.warp_step.specs.Program.{rule_of}
use Rattle.warp_prog.specs.inner.Placing.{sources_read}
use Rattle.warp_prog.proofs.order.sources_read.Given as goal

abbrev pub invariant-loop-link : goal.invariant-loop-link
invariant-loop-link l =
    l.ports.items ++ sources_read (rule_of l.reaction) (drop l.link-index l.links) ≡ sources_read (rule_of l.reaction) l.links
