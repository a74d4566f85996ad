-- some reactor that is left exceeds its limits exactly if some of all does
use Rattle.std.proofs.Common.{◌≡◌, drop, map}
use Rattle.std.specs.List.{list_any}
use Rattle.warp_prog.specs.Limits.{reactor_exceeds}
use Rattle.warp_prog.specs.View.{reactor_tree}
use Rattle.warp_prog.proofs.limits.any_reactor.Given as goal

abbrev pub invariant-loop-i : goal.invariant-loop-i
invariant-loop-i l =
    list_any (reactor_exceeds l.form) (map reactor_tree (drop l.i l.reactors)) ≡ list_any (reactor_exceeds l.form) (map reactor_tree l.reactors)
