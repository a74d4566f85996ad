use Rattle.std.proofs.Common.{sym, ◌∙◌}
use Rattle.warp_table.specs.Records.{set_of}
use Rattle.warp_keep.proofs.Closed.{closed_by_greatest}
use Rattle.warp_keep.proofs.judging.is_closed.Goals as goal

pub returns : goal.returns
returns g c =
    let told = closed_by_greatest (set_of c.args.replica.now.records) c.args.origin c.closed_to.result c.args.tag c.closed_to.ensures in
    (λ h. told.1 (sym c.is_before.ensures ∙ h), λ shut. c.is_before.ensures ∙ told.0 shut)
