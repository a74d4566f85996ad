-- one of the links that are left leads back exactly if one of all does
use Rattle.std.proofs.Common.{◌≡◌, drop, map}
use Rattle.std.specs.List.{list_any}
use Rattle.warp_prog.specs.Backward.{is_backward}
use Rattle.warp_prog.specs.View.{reactor_tree}
use Rattle.warp_prog.proofs.backward.leads_back.Given as goal

abbrev pub invariant-loop-i : goal.invariant-loop-i
invariant-loop-i l =
    list_any (is_backward (map reactor_tree l.file.reactors.items)) (drop l.i l.file.links.items)
    ≡ list_any (is_backward (map reactor_tree l.file.reactors.items)) l.file.links.items
