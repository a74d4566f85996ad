use Rattle.std.proofs.Common.{◌≡◌, drop, map}
use Rattle.serde_json.specs.View.{items_view}
use Rattle.warp_prog.specs.Json.{each}
use Rattle.warp_prog.specs.Shape.{reactor_of}
use Rattle.warp_prog.specs.View.{reactor_tree}
use Rattle.warp_prog.proofs.ItemLemmas.{after}
use Rattle.warp_prog.proofs.shape.reactor.each_reactor.Given as goal

abbrev pub invariant-loop-item : goal.invariant-loop-item
invariant-loop-item l = after (map reactor_tree l.found.items) (each reactor_of (items_view (drop l.item-index l.items))) ≡ each reactor_of (items_view l.items)
