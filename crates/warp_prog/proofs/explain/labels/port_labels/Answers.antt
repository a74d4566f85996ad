use Rattle.std.proofs.Common.{map, ap, string_bytes, ◌∙◌}
use Rattle.std.proofs.lemmas.List.{take_all}
use Rattle.warp_prog.specs.Explain.{port_called}
use Rattle.warp_prog.specs.View.{reactor_tree}
use Rattle.warp_prog.proofs.LabelLemmas.{texts_more}
use Rattle.warp_prog.proofs.explain.labels.port_labels.Goals as goal

pub loop-thing-preserved : goal.loop-thing-preserved
loop-thing-preserved g c =
    let l = c.loop-thing in
    let its = port_called (map reactor_tree c.args.reactors.now) in
    let shown = c.in_ok-label.ensures ∙ ap its c.port.ensures in
    texts_more string_bytes (λ t. its (g.T.Refers.refers_to t)) l.labels.items c.push.new.self.items c.in_ok-label.label c.args.things.now
    l.thing-index c.thing-item.result c.loop-thing-test.true c.thing-item.is c.in_ok-push.ensures.items shown l.invariant

pub returns : goal.returns
returns g c =
    let its = port_called (map reactor_tree c.args.reactors.now) in
    c.loop-thing.invariant
    ∙ ap (map (λ t. its (g.T.Refers.refers_to t))) (take_all c.loop-thing.thing-index c.args.things.now c.loop-thing-test.false)
