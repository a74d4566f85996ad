use Rattle.warp_clients.proofs.Stepping.{changed_here}
use Rattle.warp_clients.proofs.crowd.Crowd.changed.Goals as goal

pub returns-clause-some : goal.returns-clause-some
returns-clause-some c = changed_here c.in_ok-who.who c.args.self.now c.next_listed.new.self c.ready.new.self c.next_listed.ensures.same c.in_ok-who.ensures.here c.ready.ensures
