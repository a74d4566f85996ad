-- the reactors that are left have no later key exactly if none has
use Rattle.std.proofs.Common.{◌≡◌, drop}
use Rattle.serde_json.specs.View.{items_view}
use Rattle.warp_prog.specs.Shape.{have_first_keys}
use Rattle.warp_prog.proofs.shape.reactor.have_first_keys.Given as goal

abbrev pub invariant-loop-item : goal.invariant-loop-item
invariant-loop-item l = have_first_keys (items_view (drop l.item-index l.items)) ≡ have_first_keys (items_view l.items)
