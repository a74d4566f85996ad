-- the next number
use Rattle.std.proofs.Common.{◌+◌, ◌++◌, arith}
use Rattle.std.specs.Prelude.{pos}
use Rattle.warp_trace.specs.Trace.{changed_at}
use Rattle.warp_trace.specs.inner.Tracing.{changed_from}
use Rattle.warp_trace.proofs.TraceItems.{gathered, number_next}
use Rattle.warp_trace.proofs.item.add_others.Goals as goal

pub loop-number-preserved : goal.loop-number-preserved
loop-number-preserved c =
    let n = c.loop-number.number in
    let before = c.args.before.now in
    let after = c.args.after.now in
    let test = c.loop-number-test.true in
    let last = c.requires.end.1 in
    gathered c.loop-number.items.items (changed_at before after n) c.add_changed_at.new.items.items
    (changed_from before after (n + 1)) (changed_from before after n) (c.args.items.now.items ++ changed_from before after c.args.from)
    c.in_ok-add_changed_at.ensures (number_next (changed_at before after) n after (pos 0) (omega arith)) c.loop-number.invariant
