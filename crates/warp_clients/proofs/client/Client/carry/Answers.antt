use Rattle.std.proofs.Common.{refl, take, inr}
use Rattle.warp_clients.proofs.Cuts.{carry_cut}
use Rattle.warp_clients.proofs.client.Client.carry.Goals as goal

pub returns-in-Ok : goal.returns-in-Ok
returns-in-Ok c =
    rw (← c.self.view_is) (inr (inr (
      take c.in-Some.end c.as_slice-2.result.now,
      (
        c.if-self.false,
        carry_cut c.self.inside.out.items c.as_slice.result.now c.as_slice-2.result.now c.advance.new.self.items c.in-Some.end c.as_slice.ensures
            c.as_slice-2.ensures c.in-Some.ensures.0 c.in-Some.ensures.1 c.advance.ensures.items,
        c.in-Ok.ensures.passes,
        refl,
      ),
    )))
