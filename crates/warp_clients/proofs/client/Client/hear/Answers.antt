use Rattle.std.proofs.Common.{refl}
use Rattle.warp_clients.proofs.client.Client.hear.Goals as goal

pub returns-in-Ok-clause-ok : goal.returns-in-Ok-clause-ok
returns-in-Ok-clause-ok c = rw (← c.self.view_is) (c.if-self.false, c.in-Ok.ensures.passes, refl)
