use Rattle.warp_replica.specs.Answered.{facts_of}
use Rattle.warp_clients.proofs.Moving.{run_on}
use Rattle.warp_clients.proofs.clients.Clients.tell_one.Goals as goal

pub returns-then-not-is_told : goal.returns-then-not-is_told
returns-then-not-is_told g c = run_on (facts_of g.T.Timeline.settled g.T.Timeline.refused g.T.Timeline.floor g.T.Timeline.SLACK) c.args.self.now c.is_told.new.self c.refuse_word.new.self c.is_told.ensures c.refuse_word.ensures
