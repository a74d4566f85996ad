use Rattle.std.proofs.Common.{IsTrue, subst}
use Rattle.std.specs.Prelude.{◌↔◌}
use Rattle.warp_table.specs.Announced.{IsBroken}
use Rattle.warp_table.specs.Records.{set_of}
use Rattle.warp_replica.proofs.replica.Replica.broken.Goals as goal

pub returns : goal.returns
returns g c = subst (λ s. IsTrue c.broken.result ↔ IsBroken (set_of s.records) c.args.origin) c.self.view_is c.broken.ensures
