use Rattle.std.proofs.Common.{List, subst}
use Rattle.warp_record.specs.declared.record.Record.{Record}
use Rattle.warp_table.specs.Records.{set_of}
use Rattle.warp_table.specs.inner.Closed.{ClosesJointly}
use Rattle.warp_table.proofs.ClosedTags.{closes_jointly}
use Rattle.warp_table.proofs.table.Table.closed_jointly.Goals as goal

pub returns : goal.returns
returns c =
    let is = c.self.inside in
    subst (λ (records : List Record). ClosesJointly (set_of records) c.last.result) c.self.view_is
    (closes_jointly is.records.items is.announcers.items is.joint c.self.invariant.3 c.last.result c.last.ensures)
