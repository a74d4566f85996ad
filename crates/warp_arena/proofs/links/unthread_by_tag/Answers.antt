use Rattle.warp_arena.specs.Shape.{by_tag}
use Rattle.warp_arena.proofs.Setting.{Skips-from}
use Rattle.warp_arena.proofs.links.unthread_by_tag.Goals as goal

pub returns-clause-skips : goal.returns-clause-skips
returns-clause-skips c =
    Skips-from c.args.ends.now c.set_next_by_tag.new.ends c.set_prev_by_tag.new.ends (by_tag c.args.nodes.now) (by_tag c.set_next_by_tag.new.nodes) (by_tag c.set_prev_by_tag.new.nodes)
    c.args.at c.next_by_tag-after.result c.next_by_tag-after.ensures c.set_next_by_tag.ensures.sets c.set_prev_by_tag.ensures.sets
