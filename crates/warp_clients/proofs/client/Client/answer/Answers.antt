use Rattle.std.proofs.Common.{refl, inr}
use Rattle.warp_clients.proofs.client.Client.answer.Goals as goal

pub returns : goal.returns
returns g c = rw (← c.self.view_is) (inr (c.if-self.false, c.answer.ensures.passes, refl))
