-- an origin's rows say what is known of its names
use Rattle.std.proofs.Common.{◌≤◌, List, [], length, get_or, ap, sym, subst, ◌∙◌, rules}
use Rattle.warp_table.specs.declared.rows.NameRow.{NameRow}
use Rattle.warp_table.specs.inner.NamesByOrigin.{row_of}
use Rattle.warp_table.proofs.NamesInOrder.{found_in, known_past}
use Rattle.warp_table.proofs.names.Names.known.Goals as goal

pub returns-in_err-rows : goal.returns-in_err-rows
returns-in_err-rows c =
    let is = c.self.inside in
    let past : length c.deref.result.now ≤ c.args.name.origin = search rules in
    c.from_residual.ensures
    ∙ sym (known_past is.origins.items c.args.name (subst (λ (os : List (List NameRow)). length os ≤ c.args.name.origin) c.deref.ensures.value past))
    ∙ sym (found_in is.origins.items is.order.items c.args.self.now c.self.view_is c.self.invariant c.args.name)

pub returns : goal.returns
returns c =
    let is = c.self.inside in
    c.known.ensures
    ∙ ap (row_of c.args.name.tag) (c.in_ok-rows.ensures.lookup.3.1 [] ∙ ap (λ (os : List (List NameRow)). get_or os c.args.name.origin []) c.deref.ensures.value)
    ∙ sym (found_in is.origins.items is.order.items c.args.self.now c.self.view_is c.self.invariant c.args.name)
