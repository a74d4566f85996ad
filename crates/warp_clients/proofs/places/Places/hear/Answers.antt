use Rattle.std.specs.Prelude.{take}
use Rattle.warp_clients.specs.Client.{Hears}
use Rattle.warp_clients.proofs.At.{becomes_at, loses_at}
use Rattle.warp_clients.proofs.places.Places.hear.Goals as goal

pub returns-clause-ok : goal.returns-clause-ok
returns-clause-ok c = becomes_at (Hears (take c.in-Ok.count c.args.bytes.now)) c.args.who c.self.inside.clients.items c.args.self.now c.in-Some.at c.index_mut.result.now c.hear.new.self c.self.view_is c.in-Some.ensures.there c.index_mut.ensures.value c.in-Ok.ensures.ok

pub returns-in_default-hear-clause-err : goal.returns-in_default-hear-clause-err
returns-in_default-hear-clause-err c = loses_at c.args.who c.self.inside.clients.items c.args.self.now c.in-Some.at c.index_mut.result.now c.hear.new.self c.self.view_is c.in-Some.ensures.there c.index_mut.ensures.value c.in_default-hear.ensures.err
