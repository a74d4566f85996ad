-- A line where the variable is told, and else none.
use Rattle.std.proofs.Common.{◌≡◌, ◌∙◌, ap, false, slice_get}
use Rattle.std.specs.Option.{option_map_or}
use Rattle.std.proofs.lemmas.Result.{on_ok_weaker}
use Rattle.warp_world.specs.inner.Printing.{told_at}
use Rattle.warp_world.proofs.Printings.{variable_told, variable_untold}
use Rattle.warp_world.proofs.printing.append_variable.Goals as goal

pub returns-then-is_told : goal.returns-then-is_told
returns-then-is_told g c =
    let r = c.args.replica.now in
    let told : c.is_told.result ≡ told_at r.program c.args.number =
    c.is_told.ensures ∙ ap (λ vs. option_map_or (λ v. v.is_told) (slice_get vs c.args.number) false)
    (c.variables.ensures ∙ ap (λ P. P.variables) c.program.ensures) in
    on_ok_weaker c.append_answer.result
    (variable_told r.program r.records c.args.number c.is_told.result c.args.text.now.items c.append_answer.new.text.items told c.if-is_told.true)
    c.append_answer.ensures

pub returns : goal.returns
returns g c =
    let r = c.args.replica.now in
    let told : c.is_told.result ≡ told_at r.program c.args.number =
    c.is_told.ensures ∙ ap (λ vs. option_map_or (λ v. v.is_told) (slice_get vs c.args.number) false)
    (c.variables.ensures ∙ ap (λ P. P.variables) c.program.ensures) in
    variable_untold r.program r.records c.args.number c.is_told.result c.args.text.now.items told c.if-is_told.false
