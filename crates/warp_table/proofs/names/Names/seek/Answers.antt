-- an origin's rows say what is known of its names, and stay
use Rattle.std.proofs.Common.{◌≡◌, ◌<◌, ℕ, List, [], length, set, ap, sym, subst, ◌∙◌, arith}
use Rattle.std.proofs.lemmas.List.{get_or_read}
use Rattle.warp_table.specs.declared.rows.NameRow.{NameRow}
use Rattle.warp_table.specs.inner.NamesByOrigin.{AreListed, known_in, listed, row_of, rows_at}
use Rattle.warp_table.proofs.NamesInOrder.{found_in, kept_is, kept_listed, known_past, set_back}
use Rattle.warp_table.proofs.names.Names.seek.Goals as goal

pub returns-then-len-name-clause-known : goal.returns-then-len-name-clause-known
returns-then-len-name-clause-known c =
    let is = c.self.inside in
    sym (known_past is.origins.items c.args.name (omega (arith, c.if-len-name.true, c.len.ensures, is.origins.ok.0)))
    ∙ sym (found_in is.origins.items is.order.items c.args.self.now c.self.view_is c.self.invariant c.args.name)

pub invariant_of-self : goal.invariant_of-self
invariant_of-self c =
    let is = c.self.inside in
    let name = c.args.name in
    let row = c.index_mut-rows.result.now in
    let here = c.index_mut-rows.ensures.value in
    let within : name.origin < length is.origins.items = omega (arith, c.if-len-name.false, c.len.ensures, is.origins.ok.0) in
    let same : (other : ℕ) → rows_at (set is.origins.items name.origin row) other ≡ rows_at is.origins.items other = (λ other. set_back is.origins.items name.origin row within here other) in
    subst (λ (r : List NameRow). AreListed (known_in (set is.origins.items name.origin r)) is.order.items) (sym c.seek.ensures.same)
    (kept_listed is.origins.items is.order.items c.args.self.now c.self.view_is c.self.invariant (set is.origins.items name.origin row) same)

pub returns-clause-known : goal.returns-clause-known
returns-clause-known c =
    let is = c.self.inside in
    let name = c.args.name in
    let row = c.index_mut-rows.result.now in
    let within : name.origin < length is.origins.items = omega (arith, c.if-len-name.false, c.len.ensures, is.origins.ok.0) in
    c.seek.ensures.known
    ∙ ap (row_of name.tag) (get_or_read is.origins.items name.origin row within c.index_mut-rows.ensures.value [])
    ∙ sym (found_in is.origins.items is.order.items c.args.self.now c.self.view_is c.self.invariant name)

pub returns-clause-same : goal.returns-clause-same
returns-clause-same c =
    let is = c.self.inside in
    let name = c.args.name in
    let row = c.index_mut-rows.result.now in
    let here = c.index_mut-rows.ensures.value in
    let within : name.origin < length is.origins.items = omega (arith, c.if-len-name.false, c.len.ensures, is.origins.ok.0) in
    let same : (other : ℕ) → rows_at (set is.origins.items name.origin row) other ≡ rows_at is.origins.items other = (λ other. set_back is.origins.items name.origin row within here other) in
    ap (λ (r : List NameRow). listed (known_in (set is.origins.items name.origin r)) is.order.items) c.seek.ensures.same
    ∙ kept_is is.origins.items is.order.items c.args.self.now c.self.view_is c.self.invariant (set is.origins.items name.origin row) same
