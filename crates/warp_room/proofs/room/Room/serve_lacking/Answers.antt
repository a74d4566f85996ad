use Rattle.std.proofs.Common.{arith}
use Rattle.std.proofs.lemmas.Bool.Decides.{nat_tests}
use Rattle.warp_replica.specs.Answered.{facts_of}
use Rattle.warp_room.proofs.Serving.{one_or_none}
use Rattle.warp_room.proofs.room.Room.serve_lacking.Goals as goal

pub returns-then-most-gt0-clause-served : goal.returns-then-most-gt0-clause-served
returns-then-most-gt0-clause-served g c =
    one_or_none (facts_of g.T.Timeline.settled g.T.Timeline.refused g.T.Timeline.floor g.T.Timeline.SLACK) c.args.most c.args.self.now c.serve-why.new.self
    c.serve-why.result (grind (c.if-most-gt0.true, nat_tests, arith)) c.serve-why.ensures.served c.serve-why.ensures.ends
