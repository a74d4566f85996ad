use Rattle.warp_clients.proofs.clients.Clients.own_digest.Goals as goal

pub returns : goal.returns
returns g c = rw (← c.self.view_is) c.whole_digest.ensures
