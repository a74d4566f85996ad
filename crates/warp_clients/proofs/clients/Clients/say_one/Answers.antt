use Rattle.warp_replica.specs.Answered.{facts_of}
use Rattle.warp_clients.proofs.Moving.{run_on}
use Rattle.warp_clients.proofs.clients.Clients.say_one.Goals as goal

pub returns-in-Kept : goal.returns-in-Kept
returns-in-Kept g c = run_on (facts_of g.T.Timeline.settled g.T.Timeline.refused g.T.Timeline.floor g.T.Timeline.SLACK) c.args.self.now c.listen.new.self c.hear_line.new.self c.listen.ensures c.hear_line.ensures

pub returns-in-Requests : goal.returns-in-Requests
returns-in-Requests g c = run_on (facts_of g.T.Timeline.settled g.T.Timeline.refused g.T.Timeline.floor g.T.Timeline.SLACK) c.args.self.now c.listen.new.self c.answer_requests.new.self c.listen.ensures c.answer_requests.ensures

pub returns-in-Upgrade : goal.returns-in-Upgrade
returns-in-Upgrade g c = run_on (facts_of g.T.Timeline.settled g.T.Timeline.refused g.T.Timeline.floor g.T.Timeline.SLACK) c.args.self.now c.listen.new.self c.turn_to_web.new.self c.listen.ensures c.turn_to_web.ensures
