use Rattle.warp_replica.specs.Answered.{facts_of}
use Rattle.warp_replica.proofs.Asked.{query_answered}
use Rattle.warp_replica.proofs.replica.Replica.respond.Goals as goal

pub returns-in-Ask-clause-answered : goal.returns-in-Ask-clause-answered
returns-in-Ask-clause-answered g c =
    let facts = facts_of g.T.Timeline.settled g.T.Timeline.refused g.T.Timeline.floor g.T.Timeline.SLACK in
    let asked = c.settle_and_answer.ensures in
    rw c.in-Ask.is
    (query_answered facts c.args.self.now c.settle_and_answer.new.self c.valid.ensures.once asked.program c.in-Ask.query
    c.settle_and_answer.result.0 asked.gives asked.reply asked.settles asked.floor)
