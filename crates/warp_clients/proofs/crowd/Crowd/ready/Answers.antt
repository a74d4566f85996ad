use Rattle.std.proofs.Common.{refl}
use Rattle.warp_clients.proofs.Moving.{crowd_on}
use Rattle.warp_clients.proofs.crowd.Crowd.ready.Goals as goal

pub returns : goal.returns
returns c = crowd_on c.args.who c.args.self.now c.carry.new.self _ (crowd_on c.args.who c.args.self.now c.finish.new.self c.carry.new.self c.finish.ensures c.carry.ensures) c.close.ensures
