-- an origin's rows say which of its names is the last
use Rattle.std.proofs.Common.{◌≡◌, ◌≤◌, List, [], Option, is_some, length, get_or, ap, sym, subst, ◌∙◌, rules}
use Rattle.std.specs.Map.{lookup}
use Rattle.std.proofs.lemmas.Option.{IfSome_then}
use Rattle.warp_record.proofs.LineWords.{IfNone_then}
use Rattle.warp_tag.specs.Moment.{Moment}
use Rattle.warp_table.specs.declared.names.Name.{Name}
use Rattle.warp_table.specs.declared.rows.Known.{Known}
use Rattle.warp_table.specs.declared.rows.NameRow.{NameRow}
use Rattle.warp_table.specs.inner.Kept.{is_named}
use Rattle.warp_table.specs.inner.NamesByOrigin.{row_of}
use Rattle.warp_table.proofs.NamesInOrder.{found_in, known_past}
use Rattle.warp_table.proofs.names.Names.last.Goals as goal

-- what is known of a name is what the origin's rows say
found : (c : goal.After-last) (other : Moment) → lookup (is_named c.args.origin other) c.args.self.now ≡ row_of other c.in_ok-rows.rows.now
found c other =
    let is = c.self.inside in
    let name : Name = record { origin = c.args.origin; tag = other } in
    found_in is.origins.items is.order.items c.args.self.now c.self.view_is c.self.invariant name
    ∙ sym (ap (row_of other) (c.in_ok-rows.ensures.lookup.3.1 [] ∙ ap (λ (os : List (List NameRow)). get_or os c.args.origin []) c.deref.ensures.value))

pub returns-in_err-rows-clause-none : goal.returns-in_err-rows-clause-none
returns-in_err-rows-clause-none c =
    let is = c.self.inside in
    let past : length c.deref.result.now ≤ c.args.origin = search rules in
    rw c.from_residual.ensures (λ other. (
    let name : Name = record { origin = c.args.origin; tag = other } in
    found_in is.origins.items is.order.items c.args.self.now c.self.view_is c.self.invariant name
    ∙ known_past is.origins.items name (subst (λ (os : List (List NameRow)). length os ≤ c.args.origin) c.deref.ensures.value past)
    ))

pub returns-clause-there : goal.returns-clause-there
returns-clause-there c =
    IfSome_then c.last.result c.last.ensures.there (λ tag some. ap (λ (k : Option Known). is_some k) (found c tag) ∙ some)

pub returns-clause-greatest : goal.returns-clause-greatest
returns-clause-greatest c = IfSome_then c.last.result c.last.ensures.greatest (λ tag none other later. found c other ∙ none other later)

pub returns-clause-none : goal.returns-clause-none
returns-clause-none c = IfNone_then c.last.result c.last.ensures.none (λ none other. found c other ∙ ap (row_of other) none)
