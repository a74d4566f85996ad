use Rattle.std.proofs.Common.{inr}
use Rattle.std.proofs.lemmas.Bool.{false≢true}
use Rattle.warp_table.specs.Records.{set_of}
use Rattle.warp_keep.specs.Judging.{Differs, IsAnyAnnouncement, IsLate}
use Rattle.warp_keep.proofs.Judged.{may_come}
use Rattle.warp_keep.proofs.judging.judge_kept.Goals as goal

pub returns : goal.returns
returns g c =
    let said = c.args.record.now in
    let S = set_of c.args.replica.now.records in
    let named : IsAnyAnnouncement said → ⊥ = (λ a. false≢true (c.if-is_announcement.ensures.1 a)) in
    let timely : IsLate S said → ⊥ = (λ late. false≢true (c.if-is_late.ensures.1 late)) in
    let same : Differs S said → ⊥ = (λ other. false≢true (c.if-differs.ensures.1 other)) in
    inr (inr (named, inr (may_come S said named timely same)))
