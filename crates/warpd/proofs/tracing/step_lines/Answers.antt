-- At the end of all lines the steps are printed, and at any other end nothing is.
use Rattle.std.proofs.Common.{inl, inr, refl}
use Rattle.warpd.proofs.Traces.{stops}
use Rattle.warpd.proofs.tracing.step_lines.Goals as goal

pub returns-in-End : goal.returns-in-End
returns-in-End g c =
    let r = c.in-End.ensures in
    (c.read_lines.new.streams, r.written, inl (r.failures.0, c.print_executed.ensures))

pub returns-in_default : goal.returns-in_default
returns-in_default g c =
    let r = c.read_lines.ensures in (
      c.read_lines.new.streams,
      r.written,
      inr (
        stops c.args.streams.now c.read_lines.new.streams c.read_lines.result c.outcome_of.result
            c.in_default.not-End r.failures r.many c.outcome_of.ensures,
        refl,
      ),
    )
