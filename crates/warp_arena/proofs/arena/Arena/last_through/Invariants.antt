use Rattle.warp_tag.specs.Table.{name_before}
use Rattle.warp_arena.specs.Shape.{entry_at}
use Rattle.warp_arena.proofs.Walks.{Stands, steps_left, used}
use Rattle.warp_arena.proofs.arena.Arena.last_through.Given as goal

abbrev pub invariant-loop-at : goal.invariant-loop-at
invariant-loop-at l = Stands (λ i. name_before l.origin l.tag (entry_at l.self-inside.nodes.items i)) (used l.self-inside) l.at

abbrev pub decreases-loop-at : goal.decreases-loop-at
decreases-loop-at l = steps_left l.at (used l.self-inside)
