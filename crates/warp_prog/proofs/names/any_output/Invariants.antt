-- some program output that is left is unknown exactly if some of all is
use Rattle.std.proofs.Common.{◌≡◌, drop, map, not}
use Rattle.std.specs.List.{list_any}
use Rattle.warp_prog.specs.Names.{is_output}
use Rattle.warp_prog.specs.View.{reactor_tree}
use Rattle.warp_prog.proofs.names.any_output.Given as goal

abbrev pub invariant-loop-i : goal.invariant-loop-i
invariant-loop-i l =
    list_any (λ p. not (is_output (map reactor_tree l.reactors) p)) (drop l.i l.outputs)
    ≡ list_any (λ p. not (is_output (map reactor_tree l.reactors) p)) l.outputs
