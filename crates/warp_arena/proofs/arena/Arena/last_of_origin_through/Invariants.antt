use Rattle.warp_tag.specs.Table.{name_before}
use Rattle.warp_arena.specs.Shape.{entry_at}
use Rattle.warp_arena.proofs.Walks.{Stands, steps_left, owned}
use Rattle.warp_arena.proofs.arena.Arena.last_of_origin_through.Given as goal

abbrev pub invariant-loop-at : goal.invariant-loop-at
invariant-loop-at l = Stands (λ i. name_before l.origin l.tag (entry_at l.self-inside.nodes.items i)) (owned l.self-inside l.origin) l.at

abbrev pub decreases-loop-at : goal.decreases-loop-at
decreases-loop-at l = steps_left l.at (owned l.self-inside l.origin)
