-- the later one of what its own announcements and joint ones close
use Rattle.std.proofs.Common.{sym, subst}
use Rattle.warp_tag.specs.Moment.{Moment}
use Rattle.warp_table.specs.Closed.{ClosesAt}
use Rattle.warp_table.specs.Records.{set_of}
use Rattle.warp_table.proofs.ClosedTags.{closes_both}
use Rattle.warp_table.proofs.table.Table.closed_to.Goals as goal

pub returns : goal.returns
returns c =
    subst (λ (end : Moment). ClosesAt (set_of c.args.self.now) c.args.origin end) (sym c.later.ensures)
    (closes_both (set_of c.args.self.now) c.args.origin c.closed_alone.result c.closed_jointly.result c.closed_alone.ensures c.closed_jointly.ensures)
