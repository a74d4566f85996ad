use Rattle.std.proofs.Common.{IsTrue, subst}
use Rattle.std.specs.Prelude.{◌↔◌}
use Rattle.warp_table.specs.Joint.{IsBrokenJointly}
use Rattle.warp_table.specs.Records.{set_of}
use Rattle.warp_replica.proofs.replica.Replica.joint_broken.Goals as goal

pub returns : goal.returns
returns g c = subst (λ s. IsTrue c.joint_broken.result ↔ IsBrokenJointly (set_of s.records)) c.self.view_is c.joint_broken.ensures
