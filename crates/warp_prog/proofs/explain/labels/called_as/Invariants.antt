-- what the name is called by those that are left is what it is called by all
use Rattle.std.proofs.Common.{◌≡◌, drop}
use Rattle.warp_prog.specs.Explain.{called_in}
use Rattle.warp_prog.specs.View.{reactor_tree}
use Rattle.warp_prog.proofs.explain.labels.called_as.Given as goal

abbrev pub invariant-loop-part : goal.invariant-loop-part
invariant-loop-part l = called_in (drop l.part-index l.reactor.called.items) l.name ≡ called_in (reactor_tree l.reactor).called l.name
