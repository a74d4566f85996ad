use Rattle.std.proofs.Common.{map, string_bytes, sym, ◌∙◌}
use Rattle.warp_prog.specs.Explain.{port_names}
use Rattle.warp_prog.specs.Uses.{action_names, timer_names, variable_names}
use Rattle.warp_prog.proofs.LabelLemmas.{labels_more, labels_all}
use Rattle.warp_prog.proofs.explain.labels.inside_all.Goals as goal

pub loop-reactor-preserved : goal.loop-reactor-preserved
loop-reactor-preserved c =
    let l = c.loop-reactor in
    let old = l.inside in
    let new = c.add.new.self in
    let added = c.in_ok-add.ensures in
    let rs = c.args.reactors.now in
    let i = l.reactor-index in
    let r = c.reactor-item.result in
    let lt = c.loop-reactor-test.true in
    let here = c.reactor-item.is in
    record {
      variables = labels_more variable_names (map string_bytes old.variables.items) (map string_bytes new.variables.items) rs i r lt here added.variables ∙ l.invariant.variables;
      ports = labels_more port_names (map string_bytes old.ports.items) (map string_bytes new.ports.items) rs i r lt here added.ports ∙ l.invariant.ports;
      actions = labels_more action_names (map string_bytes old.actions.items) (map string_bytes new.actions.items) rs i r lt here added.actions ∙ l.invariant.actions;
      timers = labels_more timer_names (map string_bytes old.timers.items) (map string_bytes new.timers.items) rs i r lt here added.timers ∙ l.invariant.timers;
    }

pub returns-clause-variables : goal.returns-clause-variables
returns-clause-variables c =
    let l = c.loop-reactor in
    sym (labels_all variable_names (map string_bytes l.inside.variables.items) c.args.reactors.now l.reactor-index c.loop-reactor-test.false) ∙ l.invariant.variables

pub returns-clause-ports : goal.returns-clause-ports
returns-clause-ports c =
    let l = c.loop-reactor in
    sym (labels_all port_names (map string_bytes l.inside.ports.items) c.args.reactors.now l.reactor-index c.loop-reactor-test.false) ∙ l.invariant.ports

pub returns-clause-actions : goal.returns-clause-actions
returns-clause-actions c =
    let l = c.loop-reactor in
    sym (labels_all action_names (map string_bytes l.inside.actions.items) c.args.reactors.now l.reactor-index c.loop-reactor-test.false) ∙ l.invariant.actions

pub returns-clause-timers : goal.returns-clause-timers
returns-clause-timers c =
    let l = c.loop-reactor in
    sym (labels_all timer_names (map string_bytes l.inside.timers.items) c.args.reactors.now l.reactor-index c.loop-reactor-test.false) ∙ l.invariant.timers
