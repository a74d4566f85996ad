use Rattle.warp_arena.specs.Shape.{of_origin}
use Rattle.warp_arena.proofs.Setting.{Skips-from}
use Rattle.warp_arena.proofs.links.unthread_of_origin.Goals as goal

pub returns-clause-skips : goal.returns-clause-skips
returns-clause-skips c =
    Skips-from c.args.ends.now c.set_next_of_origin.new.ends c.set_prev_of_origin.new.ends (of_origin c.args.nodes.now) (of_origin c.set_next_of_origin.new.nodes) (of_origin c.set_prev_of_origin.new.nodes)
    c.args.at c.next_of_origin-after.result c.next_of_origin-after.ensures c.set_next_of_origin.ensures.sets c.set_prev_of_origin.ensures.sets
