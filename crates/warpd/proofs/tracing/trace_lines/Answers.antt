-- The new desk's program is the one that was given.
use Rattle.std.proofs.Common.{ap, subst}
use Rattle.warp_step.specs.Program.{Program}
use Rattle.warpd.specs.Gathered.{Gathered}
use Rattle.warpd.specs.Outcome.{TracesOver}
use Rattle.warpd.proofs.tracing.trace_lines.Goals as goal

pub returns : goal.returns
returns g c =
    subst (λ (P : Program). TracesOver P c.args.labels.now c.args.streams.now c.trace_at.new.streams c.trace_at.result)
    (ap (λ (desk : Gathered). desk.taken.program) c.new.ensures) c.trace_at.ensures
