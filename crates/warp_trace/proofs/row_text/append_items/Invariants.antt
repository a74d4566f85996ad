-- the items that are left add what all but the first add
use Rattle.std.proofs.Common.{◌≡◌, ◌++◌, drop}
use Rattle.std.specs.Prelude.{codes}
use Rattle.std.specs.List.{flat_map}
use Rattle.warp_trace.specs.Trace.{item_text}
use Rattle.warp_trace.proofs.row_text.append_items.Given as goal

abbrev pub invariant-loop-item : goal.invariant-loop-item
invariant-loop-item l =
    l.text.items ++ flat_map (λ other. codes "," ++ item_text l.labels other) (drop l.item-index l.rest)
    ≡ l.initial.text.items ++ flat_map (λ other. codes "," ++ item_text l.labels other) l.rest
