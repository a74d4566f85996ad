use Rattle.std.proofs.Common.{refl, inr}
use Rattle.warp_clients.proofs.client.Client.written.Goals as goal

pub returns : goal.returns
returns c = rw (← c.self.view_is) (inr (c.if-self.false, (c.args.count, refl), c.written.ensures.passes, refl))
