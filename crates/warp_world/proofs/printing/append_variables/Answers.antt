-- A line for each variable, up to the last.
use Rattle.std.proofs.Common.{◌≡◌, ◌∙◌, ◌<◌, ◌≤◌, ap, length, subst}
use Rattle.warp_table.specs.Records.{set_of}
use Rattle.warp_world.proofs.Printings.{all_variables, one_variable_more}
use Rattle.warp_world.proofs.printing.append_variables.Goals as goal

pub loop-number-preserved : goal.loop-number-preserved
loop-number-preserved g c =
    let r = c.args.replica.now in
    let many : c.variable_count-number-end.result ≡ length r.program.variables =
    c.variable_count-number-end.ensures ∙ ap (λ P. length P.variables) c.program.ensures in
    one_variable_more r.program r.records c.loop-number.number c.args.text.now.items c.loop-number.text.items c.append_variable.new.text.items
    (subst (λ count. c.loop-number.number < count) many c.loop-number-test.true)
    c.loop-number.invariant c.in_ok-append_variable.ensures

pub returns : goal.returns
returns g c =
    let r = c.args.replica.now in
    let many : c.variable_count-number-end.result ≡ length r.program.variables =
    c.variable_count-number-end.ensures ∙ ap (λ P. length P.variables) c.program.ensures in
    all_variables r.program (set_of r.records) c.loop-number.number c.args.text.now.items c.loop-number.text.items
    (subst (λ count. count ≤ c.loop-number.number) many c.loop-number-test.false)
    c.loop-number.invariant
