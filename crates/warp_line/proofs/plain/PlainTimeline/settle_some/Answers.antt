-- a settled value stays as it is, and one that pauses too
use Rattle.std.proofs.Common.{◌≡◌, ◌↔◌, ◌∙◌, ℕ, ◌-◌, ◌<◌, List, length, arith, subst, sym}
use Rattle.warp_tag.specs.Table.{live}
use Rattle.warp_tag.specs.declared.entry.Entry.{Entry}
use Rattle.warp_step.specs.Program.{Program}
use Rattle.warp_step.specs.Run.{Row, Run}
use Rattle.warp_line.specs.Timeline.{IsDone, Settles}
use Rattle.warp_line.specs.Plain.{StandsFor}
use Rattle.warp_line.specs.declared.progress.Progress.TheVariants.{Settled}
use Rattle.warp_line.proofs.PlainLemmas.{paused_stands, settled_stands}
use Rattle.warp_line.proofs.plain.PlainTimeline.settle_some.Goals as goal

pub returns-else-not-self-clause-stands : goal.returns-else-not-self-clause-stands
returns-else-not-self-clause-stands g c = λ m h same.
    let ticks = g.M.Meter.ticks c.args.meter.now in
    let nothing : ticks - ticks ≡ 0 = omega arith in
    subst (λ (n : ℕ). (done : List Row) × Settles StandsFor c.args.self.now m n done × (Settled ≡ Settled ↔ IsDone (record m { done = done }))) (sym nothing)
    (settled_stands c.args.self.now m c.if-not-self.false h)

pub returns-in_default-clause-stands : goal.returns-in_default-clause-stands
returns-in_default-clause-stands g c = λ m h same.
    let most = c.args.most in
    let out = c.in_ok-state.ensures.paused c.in_default.is in
    let ticked = out.0 in
    let more = subst (λ (P : Program). (trace : List Row) → Run P (live m.table) trace → most < length trace) (sym same)
    (subst (λ (es : List Entry). (trace : List Row) → Run c.args.program.now (live es) trace → most < length trace) (c.deref.ensures.value ∙ h.table) out.1) in
    paused_stands c.args.self.now m (g.M.Meter.ticks c.replay.new.meter - g.M.Meter.ticks c.args.meter.now) c.if-not-self.true h
    (λ trace run. let one = more trace run in omega arith)
