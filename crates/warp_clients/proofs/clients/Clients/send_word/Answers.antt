use Rattle.warp_replica.specs.Answered.{facts_of}
use Rattle.warp_clients.proofs.Moving.{run_on}
use Rattle.warp_clients.proofs.clients.Clients.send_word.Goals as goal

pub returns-then-not-send_and_tell : goal.returns-then-not-send_and_tell
returns-then-not-send_and_tell g c =
    run_on (facts_of g.T.Timeline.settled g.T.Timeline.refused g.T.Timeline.floor g.T.Timeline.SLACK) c.args.self.now c.send_and_tell.new.self c.give_up.new.self
    c.send_and_tell.ensures.run c.give_up.ensures
