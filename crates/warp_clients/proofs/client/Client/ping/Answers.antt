use Rattle.std.proofs.Common.{refl, inl, inr}
use Rattle.warp_clients.proofs.client.Client.ping.Goals as goal

pub returns : goal.returns
returns c = rw (← c.self.view_is) (inr (inl (c.if-self.false, c.in-Ok.ensures.passes, refl)))
