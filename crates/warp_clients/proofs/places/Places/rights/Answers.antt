use Rattle.warp_clients.proofs.SentEnds.{rights_there}
use Rattle.warp_clients.proofs.places.Places.rights.Goals as goal

pub returns : goal.returns
returns c =
    rights_there c.args.who c.self.inside.clients.items c.args.self.now c.in_ok-at.at c.index.result.now c.rights.result c.self.view_is c.in_ok-at.ensures.there
    c.index.ensures c.rights.ensures
