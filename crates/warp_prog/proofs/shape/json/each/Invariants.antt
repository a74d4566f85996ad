use Rattle.std.proofs.Common.{◌≡◌, drop}
use Rattle.serde_json.specs.View.{items_view}
use Rattle.warp_prog.specs.Json.{each}
use Rattle.warp_prog.proofs.ItemLemmas.{after}
use Rattle.warp_prog.proofs.shape.json.each.Given as goal

abbrev pub invariant-loop-item : goal.invariant-loop-item
invariant-loop-item g l = after l.found.items (each g.T.FromJson.shape (items_view (drop l.item-index l.items))) ≡ each g.T.FromJson.shape (items_view l.items)
