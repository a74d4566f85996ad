-- three pieces, one behind the other
use Rattle.std.proofs.Common.{◌∙◌, ◌++◌, ap, length}
use Rattle.warp_trace.specs.Trace.{changed, changed_part, outputs_part, pending_part, put, released_part}
use Rattle.warp_trace.proofs.TraceRows.{three_pieces}
use Rattle.warp_trace.proofs.TraceText.{ok_more}
use Rattle.warp_trace.proofs.trace.tell_after.Goals as goal

pub returns : goal.returns
returns c =
    let names = c.args.labels.now in
    let t0 = c.args.text.now.items in
    let t1 = c.append_part.new.text.items in
    let t2 = c.append_part-2.new.text.items in
    let s = c.args.state.now in
    ok_more c.append_last.result (λ last. three_pieces t0 (changed_part names (changed c.args.before.now s.vars)) (outputs_part names (put c.args.outputs.now))
    (pending_part (length s.pending)) (released_part c.args.released) t1 t2 c.append_last.new.text.items
    (c.in_ok-append_part.ensures ∙ ap (λ items. t0 ++ changed_part names items) (c.deref.ensures.value ∙ c.in_ok-gather_changed.ensures))
    (c.in_ok-append_part-2.ensures ∙ ap (λ items. t1 ++ outputs_part names items) (c.deref-2.ensures.value ∙ c.in_ok-gather_put.ensures))
    last) c.append_last.ensures
