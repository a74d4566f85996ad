-- the later one of its two parts
use Rattle.std.proofs.Common.{List, sym, subst}
use Rattle.warp_tag.specs.Moment.{Moment}
use Rattle.warp_record.specs.declared.record.Record.{Record}
use Rattle.warp_table.specs.Announced.{IsHorizon}
use Rattle.warp_table.specs.Horizons.{ReachesJointly}
use Rattle.warp_table.specs.Records.{set_of}
use Rattle.warp_table.proofs.JointHorizons.{horizon_of_both}
use Rattle.warp_table.proofs.JointReach.{reaches_jointly}
use Rattle.warp_table.proofs.table.Table.horizon.Goals as goal

pub returns : goal.returns
returns c =
    let is = c.self.inside in
    let joint : ReachesJointly (set_of c.args.self.now) c.reached.result =
    subst (λ (records : List Record). ReachesJointly (set_of records) c.reached.result) c.self.view_is
    (subst (λ (end : Moment). ReachesJointly (set_of is.records.items) end) (sym c.reached.ensures)
    (reaches_jointly is.records.items is.announcers.items is.joint c.self.invariant.2 c.self.invariant.3)) in
    subst (λ (end : Moment). IsHorizon c.args.program.now (set_of c.args.self.now) end) (sym c.later.ensures)
    (horizon_of_both c.args.program.now (set_of c.args.self.now) c.horizon_alone.result c.reached.result c.horizon_alone.ensures joint)
