use Rattle.std.proofs.Common.{rules, string_bytes, sym, ◌∙◌}
use Rattle.warp_prog.specs.Explain.{reactor_called}
use Rattle.warp_prog.specs.View.{reactor_tree}
use Rattle.warp_prog.proofs.Numbers.{joined_more, joined_all}
use Rattle.warp_prog.proofs.explain.labels.reactor_names.Goals as goal

pub loop-reactor-preserved : goal.loop-reactor-preserved
loop-reactor-preserved c =
    let l = c.loop-reactor in
    rw c.in_ok-push.ensures.items
    (joined_more string_bytes reactor_called reactor_tree l.names.items c.in_ok-name.name c.args.reactors.now l.reactor-index
    c.reactor-item.result c.loop-reactor-test.true c.reactor-item.is (search rules)
    ∙ l.invariant)

pub returns : goal.returns
returns c =
    let l = c.loop-reactor in
    sym (joined_all string_bytes reactor_called reactor_tree l.names.items c.args.reactors.now l.reactor-index c.loop-reactor-test.false)
    ∙ l.invariant
