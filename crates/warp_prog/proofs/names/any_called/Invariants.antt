-- some text that is left is of what is unknown exactly if some of all is
use Rattle.std.proofs.Common.{◌≡◌, drop}
use Rattle.std.specs.List.{list_any}
use Rattle.warp_prog.specs.Names.{called_unknown}
use Rattle.warp_prog.specs.View.{reactor_tree}
use Rattle.warp_prog.proofs.names.any_called.Given as goal

abbrev pub invariant-loop-i : goal.invariant-loop-i
invariant-loop-i l =
    list_any (called_unknown (reactor_tree l.reactor)) (drop l.i l.called) ≡ list_any (called_unknown (reactor_tree l.reactor)) l.called
