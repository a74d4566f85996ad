use Rattle.std.proofs.Common.{Bool, List, IsTrue, sym, subst}
use Rattle.std.specs.Prelude.{◌↔◌}
use Rattle.warp_record.specs.declared.record.Record.{Record}
use Rattle.warp_table.specs.Joint.{IsBrokenJointly}
use Rattle.warp_table.specs.Records.{set_of}
use Rattle.warp_table.proofs.JointReach.{breaks_jointly}
use Rattle.warp_table.proofs.table.Table.joint_broken.Goals as goal

pub returns : goal.returns
returns c =
    let is = c.self.inside in
    subst (λ (records : List Record). IsTrue c.is_broken.result ↔ IsBrokenJointly (set_of records)) c.self.view_is
    (subst (λ (b : Bool). IsTrue b ↔ IsBrokenJointly (set_of is.records.items)) (sym c.is_broken.ensures)
    (breaks_jointly is.records.items is.announcers.items is.joint c.self.invariant.2 c.self.invariant.3))
