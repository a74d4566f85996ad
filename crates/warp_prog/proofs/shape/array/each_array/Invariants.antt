use Rattle.std.proofs.Common.{◌≡◌, drop, map}
use Rattle.serde_json.specs.View.{items_view}
use Rattle.warp_prog.specs.Json.{each}
use Rattle.warp_prog.specs.Shape.{array_of}
use Rattle.warp_prog.specs.View.{array_tree}
use Rattle.warp_prog.proofs.ItemLemmas.{after}
use Rattle.warp_prog.proofs.shape.array.each_array.Given as goal

abbrev pub invariant-loop-item : goal.invariant-loop-item
invariant-loop-item l = after (map array_tree l.found.items) (each array_of (items_view (drop l.item-index l.items))) ≡ each array_of (items_view l.items)
