-- a name behind all of its origin's is new, and comes last
use Rattle.std.proofs.Common.{◌≡◌, ◌<◌, ℕ, [], None, List, length, set, ap, sym, subst, ◌∙◌, arith}
use Rattle.std.specs.Map.{lookup}
use Rattle.std.proofs.lemmas.List.{get_or_read}
use Rattle.warp_table.specs.declared.rows.NameRow.{NameRow}
use Rattle.warp_table.specs.inner.Kept.{is_named}
use Rattle.warp_table.specs.inner.NamesByOrigin.{AreListed, known_in, listed, row_of, rows_at}
use Rattle.warp_table.proofs.NamesInOrder.{found_in, insert_is, insert_listed, kept_is, set_back}
use Rattle.warp_table.proofs.names.Names.insert_last.Goals as goal

pub insert_last-requires : goal.insert_last-requires
insert_last-requires c =
    let is = c.self.inside in
    let name = c.args.name in
    let row = c.index_mut-rows.result.now in
    let here = c.index_mut-rows.ensures.value in
    let within : name.origin < length is.origins.items = omega (arith, c.if-len-name.false, c.len-2.ensures, is.origins.ok.0) in
    let found : lookup (is_named name.origin name.tag) c.args.self.now ≡ row_of name.tag row =
    found_in is.origins.items is.order.items c.args.self.now c.self.view_is c.self.invariant name
    ∙ sym (ap (row_of name.tag) (get_or_read is.origins.items name.origin row within here [])) in
    record { fresh = λ none. c.requires.fresh (found ∙ none) }

pub returns-then-not-insert_last-clause-other : goal.returns-then-not-insert_last-clause-other
returns-then-not-insert_last-clause-other c = λ no.
    let is = c.self.inside in
    let name = c.args.name in
    let row = c.index_mut-rows.result.now in
    let here = c.index_mut-rows.ensures.value in
    let within : name.origin < length is.origins.items = omega (arith, c.if-len-name.false, c.len-2.ensures, is.origins.ok.0) in
    let same : (other : ℕ) → rows_at (set is.origins.items name.origin row) other ≡ rows_at is.origins.items other = (λ other. set_back is.origins.items name.origin row within here other) in
    let left = c.insert_last.ensures.other c.if-not-insert_last.true in (
      ap (λ (r : List NameRow). listed (known_in (set is.origins.items name.origin r)) is.order.items) left.0
          ∙ kept_is is.origins.items is.order.items c.args.self.now c.self.view_is c.self.invariant (set is.origins.items name.origin row) same,
      left.1,
    )

pub invariant_of-self-2 : goal.invariant_of-self-2
invariant_of-self-2 c =
    let is = c.self.inside in
    let name = c.args.name in
    let row = c.index_mut-rows.result.now in
    let here = c.index_mut-rows.ensures.value in
    let within : name.origin < length is.origins.items = omega (arith, c.if-len-name.false, c.len-2.ensures, is.origins.ok.0) in
    let found : lookup (is_named name.origin name.tag) c.args.self.now ≡ row_of name.tag row =
    found_in is.origins.items is.order.items c.args.self.now c.self.view_is c.self.invariant name
    ∙ sym (ap (row_of name.tag) (get_or_read is.origins.items name.origin row within here [])) in
    let none : lookup (is_named name.origin name.tag) c.args.self.now ≡ None = found ∙ c.insert_last.ensures.new c.if-not-insert_last.false in
    subst (AreListed (known_in (set is.origins.items name.origin c.insert_last.new.self))) (sym c.push_reserved.ensures.items)
    (insert_listed is.origins.items is.order.items c.args.self.now c.self.view_is c.self.invariant name row none within here
    c.args.known c.insert_last.new.self (c.insert_last.ensures.with c.if-not-insert_last.false))

pub returns-clause-new : goal.returns-clause-new
returns-clause-new c = λ came.
    let is = c.self.inside in
    let name = c.args.name in
    let row = c.index_mut-rows.result.now in
    let here = c.index_mut-rows.ensures.value in
    let within : name.origin < length is.origins.items = omega (arith, c.if-len-name.false, c.len-2.ensures, is.origins.ok.0) in
    let found : lookup (is_named name.origin name.tag) c.args.self.now ≡ row_of name.tag row =
    found_in is.origins.items is.order.items c.args.self.now c.self.view_is c.self.invariant name
    ∙ sym (ap (row_of name.tag) (get_or_read is.origins.items name.origin row within here [])) in
    found ∙ c.insert_last.ensures.new c.if-not-insert_last.false

pub returns-clause-with : goal.returns-clause-with
returns-clause-with c = λ came.
    let is = c.self.inside in
    let name = c.args.name in
    let row = c.index_mut-rows.result.now in
    let here = c.index_mut-rows.ensures.value in
    let within : name.origin < length is.origins.items = omega (arith, c.if-len-name.false, c.len-2.ensures, is.origins.ok.0) in
    let found : lookup (is_named name.origin name.tag) c.args.self.now ≡ row_of name.tag row =
    found_in is.origins.items is.order.items c.args.self.now c.self.view_is c.self.invariant name
    ∙ sym (ap (row_of name.tag) (get_or_read is.origins.items name.origin row within here [])) in
    let none : lookup (is_named name.origin name.tag) c.args.self.now ≡ None = found ∙ c.insert_last.ensures.new c.if-not-insert_last.false in
    ap (listed (known_in (set is.origins.items name.origin c.insert_last.new.self))) c.push_reserved.ensures.items
    ∙ insert_is is.origins.items is.order.items c.args.self.now c.self.view_is c.self.invariant name row none within here
    c.args.known c.insert_last.new.self (c.insert_last.ensures.with c.if-not-insert_last.false)
