-- the step makes the row, and its line is written before and after it
use Rattle.std.proofs.Common.{◌∙◌, ap, ◌++◌}
use Rattle.warp_tag.specs.Table.{live}
use Rattle.warp_step.specs.Step.{state_after, outputs_after}
use Rattle.warp_trace.proofs.TraceRows.{tells_row}
use Rattle.warp_trace.proofs.TraceText.{ok_more}
use Rattle.warp_trace.proofs.trace.tell_row.Goals as goal

pub returns-clause-tells : goal.returns-clause-tells
returns-clause-tells g c =
    let P = c.args.program.now in
    let t = c.args.tag in
    let s = c.args.work.now.state in
    let given = c.deref.ensures.value in
    let stepped = c.step.ensures.step in
    let put_is = c.deref-3.ensures.value ∙ stepped.1 ∙ ap (λ l. l ++ stepped.0) c.in_ok-make_room.ensures.none
    ∙ stepped.2.outputs ∙ ap (outputs_after P s t) given in
    ok_more c.tell_after.result (λ last. tells_row c.args.labels.now P c.args.horizon t (live c.args.here.now) c.args.work.now.given.items s c.step.new.state
    c.args.work.now.text.items c.tell_before.new.text.items c.tell_after.new.text.items (g.M.Meter.ticks c.args.meter.now) (g.M.Meter.ticks c.step.new.meter)
    c.deref-2.result.now c.deref-3.result.now c.is_before.result
    (stepped.2.state ∙ ap (state_after P s t) given) (c.deref-2.ensures.value ∙ c.in_ok-keep.ensures) put_is c.is_before.ensures
    c.in_ok-tell_before.ensures last c.step.ensures.ticks) c.tell_after.ensures
