use Rattle.warp_replica.specs.Answered.{facts_of}
use Rattle.warp_clients.proofs.Moving.{run_on}
use Rattle.warp_clients.proofs.clients.Clients.hand.Goals as goal

pub returns : goal.returns
returns g c =
    let facts = facts_of g.T.Timeline.settled g.T.Timeline.refused g.T.Timeline.floor g.T.Timeline.SLACK in
    let start = c.args.self.now in
    let asked = run_on facts start c.hand_answers.new.self c.tell_asked.new.self c.hand_answers.ensures c.tell_asked.ensures in
    let counted = run_on facts start c.tell_asked.new.self c.tell_digests.new.self asked c.tell_digests.ensures in
    run_on facts start c.tell_digests.new.self _ counted c.tell_words.ensures
