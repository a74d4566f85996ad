use Rattle.std.proofs.Common.{ℕ, ◌≡◌, ◌+◌, ap, subst, ◌∙◌, arith}
use Rattle.std.specs.Prelude.{MatchOption, min}
use Rattle.warp_tag.specs.Limits.{last_microstep}
use Rattle.warp_tag.specs.Moment.{Moment}
use Rattle.warp_step.specs.Program.{Program, top_of}
use Rattle.warp_table.specs.Records.{set_of}
use Rattle.warp_keep.specs.Stamps.{IsStamp}
use Rattle.warp_keep.proofs.FirstFree.{answered}
use Rattle.warp_keep.proofs.stamping.stamp.Goals as goal

pub returns : goal.returns
returns g c =
    let S = set_of c.args.replica.now.records in
    let top : c.last_microstep.result ≡ top_of c.args.replica.now.program = c.last_microstep.ensures ∙ ap last_microstep (c.form.ensures ∙ ap (λ (p : Program). p.form) c.program.ensures) in
    let room : c.min-room.result ≡ min c.args.most (top_of c.args.replica.now.program + 1) = omega (arith, top, c.min-room.ensures) in
    subst (λ (n : ℕ). MatchOption c.first_free.result ((tag : Moment) → IsStamp n S c.args.origin c.args.asked tag → ⊥) (IsStamp n S c.args.origin c.args.asked)) room
    (answered c.min-room.result S c.args.origin c.args.asked c.in_ok-first.first c.first_free.result c.in_ok-first.ensures c.first_free.ensures)
