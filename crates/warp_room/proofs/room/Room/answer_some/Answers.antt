use Rattle.std.proofs.Common.{◌++◌, ◌∷◌, [], arith, length-append}
use Rattle.warp_replica.specs.Answered.{facts_of}
use Rattle.warp_room.proofs.Serving.{each_more}
use Rattle.warp_room.proofs.room.Room.answer_some.Goals as goal

pub loop-count-preserved : goal.loop-count-preserved
loop-count-preserved g c =
    let facts = facts_of g.T.Timeline.settled g.T.Timeline.refused g.T.Timeline.floor g.T.Timeline.SLACK in
    let s = c.loop-count.invariant in
    let one = c.in_default.ensures.served in (
      s.0 ++ one.0 ∷ [],
      omega (arith, s.1, length-append s.0 (one.0 ∷ [])),
      omega (arith, c.loop-count-test.true),
      each_more facts s.0 one.0 c.args.self.now c.loop-count.self c.answer_one.new.self s.3 one.1,
    )
