use Rattle.std.proofs.Common.{ap, string_bytes, sym, ◌∙◌}
use Rattle.warp_prog.specs.Explain.{label_of}
use Rattle.warp_prog.specs.View.{reactor_tree}
use Rattle.warp_prog.proofs.Numbers.{joined_more, joined_all}
use Rattle.warp_prog.proofs.explain.labels.add_each.Goals as goal

pub loop-thing-preserved : goal.loop-thing-preserved
loop-thing-preserved g c =
    let l = c.loop-thing in
    let its = label_of (reactor_tree c.args.reactor.now) in
    let text = c.in_ok-label.ensures ∙ ap its c.name.ensures in
    rw c.in_ok-push.ensures.items
    (joined_more string_bytes its g.T.Named.called l.labels.items c.in_ok-label.label c.args.things.now l.thing-index c.thing-item.result
    c.loop-thing-test.true c.thing-item.is text
    ∙ l.invariant)

pub returns : goal.returns
returns g c =
    let l = c.loop-thing in
    let its = label_of (reactor_tree c.args.reactor.now) in
    sym (joined_all string_bytes its g.T.Named.called l.labels.items c.args.things.now l.thing-index c.loop-thing-test.false)
    ∙ l.invariant
