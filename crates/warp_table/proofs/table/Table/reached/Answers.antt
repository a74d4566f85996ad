-- the later one of what its own announcements and joint ones reach
use Rattle.std.proofs.Common.{List, sym, subst}
use Rattle.warp_tag.specs.Moment.{Moment}
use Rattle.warp_record.specs.declared.record.Record.{Record}
use Rattle.warp_table.specs.Announced.{ReachesTo}
use Rattle.warp_table.specs.Horizons.{ReachesJointly}
use Rattle.warp_table.specs.Records.{set_of}
use Rattle.warp_table.proofs.JointHorizons.{reaches_both}
use Rattle.warp_table.proofs.JointReach.{reaches_jointly}
use Rattle.warp_table.proofs.table.Table.reached.Goals as goal

pub returns : goal.returns
returns c =
    let is = c.self.inside in
    let joint : ReachesJointly (set_of c.args.self.now) c.reached.result =
    subst (λ (records : List Record). ReachesJointly (set_of records) c.reached.result) c.self.view_is
    (subst (λ (end : Moment). ReachesJointly (set_of is.records.items) end) (sym c.reached.ensures)
    (reaches_jointly is.records.items is.announcers.items is.joint c.self.invariant.2 c.self.invariant.3)) in
    subst (λ (end : Moment). ReachesTo (set_of c.args.self.now) c.args.origin end) (sym c.later.ensures)
    (reaches_both (set_of c.args.self.now) c.args.origin c.reached_alone.result c.reached.result c.reached_alone.ensures joint)
