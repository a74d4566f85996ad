use Rattle.std.proofs.Common.{◌≡◌, ℕ, ◌≤◌, List, ◌++◌, length, map, drop, ap, sym, ◌∙◌}
use Rattle.std.proofs.lemmas.List.{append-nil, drop_all}
use Rattle.warp_step.specs.Program.{rule_of}
use Rattle.warp_prog.specs.File.{ReactorPart}
use Rattle.warp_prog.specs.Numbered.{in_each, its_variables, its_cells, its_ports, its_actions, its_timers, its_reactions}
use Rattle.warp_prog.specs.View.{reactor_tree}
use Rattle.warp_prog.specs.declared.file.Reactor.{Reactor}
use Rattle.warp_prog.specs.declared.scope.Before.{Before}
use Rattle.warp_prog.proofs.Numbers.{each_more, room_more}
use Rattle.warp_prog.proofs.numbered.contents_of.Goals as goal

-- no reactor more
each_all : {A : Type 0} (its : Before → ReactorPart → List A) (done : List A) (b : Before) (rs : List Reactor) (i : ℕ) → length rs ≤ i
    → done ++ in_each its b (map reactor_tree (drop i rs)) ≡ done
each_all its done b rs i past = ap (λ ss. done ++ in_each its b (map reactor_tree ss)) (drop_all i rs past) ∙ append-nil done

pub loop-reactor-preserved : goal.loop-reactor-preserved
loop-reactor-preserved c =
    let l = c.loop-reactor in
    let old = l.contents in
    let new = c.add.new.self in
    let added = c.in_ok-add.ensures in
    let rs = c.args.reactors.now in
    let i = l.reactor-index in
    let r = c.reactor-item.result in
    let lt = c.loop-reactor-test.true in
    let here = c.reactor-item.is in
    rw c.past-before.ensures (record {
      room = (room_more l.before rs i r lt here l.invariant.room).1;
      variables = each_more its_variables old.variables.items new.variables.items l.before rs i r lt here added.variables ∙ l.invariant.variables;
      cells = each_more its_cells old.cells.items new.cells.items l.before rs i r lt here added.cells ∙ l.invariant.cells;
      ports = each_more its_ports old.ports.items new.ports.items l.before rs i r lt here added.ports ∙ l.invariant.ports;
      actions = each_more its_actions old.actions.items new.actions.items l.before rs i r lt here added.actions ∙ l.invariant.actions;
      timers = each_more its_timers old.timers.items new.timers.items l.before rs i r lt here added.timers ∙ l.invariant.timers;
      reactions = each_more its_reactions (map rule_of old.reactions.items) (map rule_of new.reactions.items) l.before rs i r lt here added.reactions ∙ l.invariant.reactions;
    })

pub add-requires : goal.add-requires
add-requires c =
    let l = c.loop-reactor in
    (room_more l.before c.args.reactors.now l.reactor-index c.reactor-item.result c.loop-reactor-test.true c.reactor-item.is l.invariant.room).0

pub past-before-requires : goal.past-before-requires
past-before-requires c =
    let l = c.loop-reactor in
    (room_more l.before c.args.reactors.now l.reactor-index c.reactor-item.result c.loop-reactor-test.true c.reactor-item.is l.invariant.room).0

pub returns-clause-variables : goal.returns-clause-variables
returns-clause-variables c =
    let l = c.loop-reactor in
    sym (each_all its_variables l.contents.variables.items l.before c.args.reactors.now l.reactor-index c.loop-reactor-test.false) ∙ l.invariant.variables

pub returns-clause-cells : goal.returns-clause-cells
returns-clause-cells c =
    let l = c.loop-reactor in
    sym (each_all its_cells l.contents.cells.items l.before c.args.reactors.now l.reactor-index c.loop-reactor-test.false) ∙ l.invariant.cells

pub returns-clause-ports : goal.returns-clause-ports
returns-clause-ports c =
    let l = c.loop-reactor in
    sym (each_all its_ports l.contents.ports.items l.before c.args.reactors.now l.reactor-index c.loop-reactor-test.false) ∙ l.invariant.ports

pub returns-clause-actions : goal.returns-clause-actions
returns-clause-actions c =
    let l = c.loop-reactor in
    sym (each_all its_actions l.contents.actions.items l.before c.args.reactors.now l.reactor-index c.loop-reactor-test.false) ∙ l.invariant.actions

pub returns-clause-timers : goal.returns-clause-timers
returns-clause-timers c =
    let l = c.loop-reactor in
    sym (each_all its_timers l.contents.timers.items l.before c.args.reactors.now l.reactor-index c.loop-reactor-test.false) ∙ l.invariant.timers

pub returns-clause-reactions : goal.returns-clause-reactions
returns-clause-reactions c =
    let l = c.loop-reactor in
    sym (each_all its_reactions (map rule_of l.contents.reactions.items) l.before c.args.reactors.now l.reactor-index c.loop-reactor-test.false)
    ∙ l.invariant.reactions
