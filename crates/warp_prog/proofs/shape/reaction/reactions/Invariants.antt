use Rattle.std.proofs.Common.{◌≡◌, drop, map}
use Rattle.serde_json.specs.View.{items_view}
use Rattle.warp_prog.specs.Json.{each}
use Rattle.warp_prog.specs.Shape.{reaction_of}
use Rattle.warp_prog.specs.View.{reaction_tree}
use Rattle.warp_prog.proofs.ItemLemmas.{after}
use Rattle.warp_prog.proofs.shape.reaction.reactions.Given as goal

abbrev pub invariant-loop-item : goal.invariant-loop-item
invariant-loop-item l = after (map reaction_tree l.found.items) (each reaction_of (items_view (drop l.item-index l.items))) ≡ each reaction_of (items_view l.items)
