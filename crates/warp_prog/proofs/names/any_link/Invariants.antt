-- some link that is left is unknown exactly if some of all is
use Rattle.std.proofs.Common.{◌≡◌, drop, map}
use Rattle.std.specs.List.{list_any}
use Rattle.warp_prog.specs.Names.{link_unknown}
use Rattle.warp_prog.specs.View.{reactor_tree}
use Rattle.warp_prog.proofs.names.any_link.Given as goal

abbrev pub invariant-loop-i : goal.invariant-loop-i
invariant-loop-i l =
    list_any (link_unknown (map reactor_tree l.reactors)) (drop l.i l.links) ≡ list_any (link_unknown (map reactor_tree l.reactors)) l.links
