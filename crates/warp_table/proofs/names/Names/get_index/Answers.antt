-- a name that has come is known
use Rattle.std.proofs.Common.{◌≡◌, ◌<◌, None, Some, true, is_some, Option, List, length, get_or, slice_get, ap, sym, subst, ◌∙◌}
use Rattle.std.proofs.lemmas.Bool.{false≢true}
use Rattle.warp_table.specs.declared.names.Name.{Name}
use Rattle.warp_table.specs.declared.rows.Known.{Known}
use Rattle.warp_table.specs.inner.NamesByOrigin.{known_in}
use Rattle.warp_table.proofs.NamesInOrder.{found_in, known_at, listed_at}
use Rattle.warp_table.proofs.names.Names.get_index.Goals as goal

pub returns-in_err-known-clause-entry : goal.returns-in_err-known-clause-entry
returns-in_err-known-clause-entry c =
    let is = c.self.inside in
    let name = c.in_ok-name.field-0.now in
    let within = subst (λ (ns : List Name). c.args.number < length ns) c.deref.ensures.value c.in_ok-name.ensures.lookup.3.0 in
    let read : name ≡ get_or is.order.items c.args.number name = c.in_ok-name.ensures.lookup.3.1 name ∙ ap (λ (ns : List Name). get_or ns c.args.number name) c.deref.ensures.value in
    let some : is_some (known_in is.origins.items name) ≡ true = known_at (known_in is.origins.items) is.order.items c.self.invariant c.args.number name within read in
    let none : known_in is.origins.items name ≡ None =
    sym (found_in is.origins.items is.order.items c.args.self.now c.self.view_is c.self.invariant name) ∙ sym c.known.ensures ∙ c.in_err-known.was in
    absurd (false≢true (sym (ap (λ (k : Option Known). is_some k) none) ∙ some))

pub returns-clause-entry : goal.returns-clause-entry
returns-clause-entry c =
    let is = c.self.inside in
    let name = c.in_ok-name.field-0.now in
    let within = subst (λ (ns : List Name). c.args.number < length ns) c.deref.ensures.value c.in_ok-name.ensures.lookup.3.0 in
    let read : name ≡ get_or is.order.items c.args.number name = c.in_ok-name.ensures.lookup.3.1 name ∙ ap (λ (ns : List Name). get_or ns c.args.number name) c.deref.ensures.value in
    let known : known_in is.origins.items name ≡ Some c.in_ok-known.known =
    sym (found_in is.origins.items is.order.items c.args.self.now c.self.view_is c.self.invariant name) ∙ sym c.known.ensures ∙ c.in_ok-known.was in
    listed_at (known_in is.origins.items) is.order.items c.self.invariant c.args.number name within read c.in_ok-known.known known
    ∙ ap (λ (es : List (Name × Known)). slice_get es c.args.number) c.self.view_is
