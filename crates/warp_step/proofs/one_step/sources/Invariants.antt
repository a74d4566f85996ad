-- the sources so far and those of the ports that are left are those of all
use Rattle.std.proofs.Common.{◌≡◌, ◌++◌, drop, map}
use Rattle.warp_step.specs.Step.{numbers, source_of, sources_of}
use Rattle.warp_step.proofs.one_step.sources.Given as goal

abbrev pub invariant-loop-port : goal.invariant-loop-port
invariant-loop-port l = l.sources.items ++ map (source_of l.program.links) (numbers l.port (drop l.port l.program.ports)) ≡ sources_of l.program
