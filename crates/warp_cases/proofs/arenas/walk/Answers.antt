use Rattle.warp_arena.proofs.Reading.{Reaches-next}
use Rattle.warp_cases.proofs.arenas.walk.Goals as goal

pub loop-preserved : goal.loop-preserved
loop-preserved c =
    Reaches-next c.args.arena.now.places c.loop.counter c.in-Some.node c.loop.at c.next-at.result c.in-Some.is c.loop.invariant c.next-at.ensures
