-- some reactor that is left calls or hides what is unknown exactly if some of all does
use Rattle.std.proofs.Common.{◌≡◌, drop, map}
use Rattle.std.specs.List.{list_any}
use Rattle.warp_prog.specs.Names.{texts_unknown}
use Rattle.warp_prog.specs.View.{reactor_tree}
use Rattle.warp_prog.proofs.names.any_text.Given as goal

abbrev pub invariant-loop-i : goal.invariant-loop-i
invariant-loop-i l = list_any texts_unknown (map reactor_tree (drop l.i l.reactors)) ≡ list_any texts_unknown (map reactor_tree l.reactors)
