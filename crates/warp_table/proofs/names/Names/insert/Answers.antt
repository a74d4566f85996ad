-- a new name comes last
use Rattle.std.proofs.Common.{◌≡◌, ℕ, ◌++◌, ◌∷◌, [], List, set, refl, ap, sym, subst, ◌∙◌, arith}
use Rattle.warp_table.specs.declared.names.Name.{Name}
use Rattle.warp_table.specs.inner.NamesByOrigin.{AreListed, known_in, listed, rows_at}
use Rattle.warp_table.proofs.NamesInOrder.{insert_is, insert_listed, insert_new, kept_is, kept_listed, on_err, set_back}
use Rattle.warp_table.proofs.names.Names.insert.Goals as goal

-- origins that came in change nothing
pub returns-in_err-reserve-clause-err : goal.returns-in_err-reserve-clause-err
returns-in_err-reserve-clause-err c =
    let is = c.self.inside in
    on_err c.from_residual-in_err-reserve.result (
      ap (listed (known_in c.keep_up_to.new.origins.items)) c.reserve.ensures.items
          ∙ kept_is is.origins.items is.order.items c.args.self.now c.self.view_is c.self.invariant c.keep_up_to.new.origins.items c.keep_up_to.ensures.same,
      refl,
    )

pub insert-requires-clause-new : goal.insert-requires-clause-new
insert-requires-clause-new c =
    let is = c.self.inside in
    let now = c.keep_up_to.new.origins in
    insert_new now.items is.order.items c.args.self.now
    (kept_is is.origins.items is.order.items c.args.self.now c.self.view_is c.self.invariant now.items c.keep_up_to.ensures.same)
    (kept_listed is.origins.items is.order.items c.args.self.now c.self.view_is c.self.invariant now.items c.keep_up_to.ensures.same)
    c.args.name c.index_mut-rows.result.now c.requires.new (omega (arith, c.in_ok-keep_up_to.ensures.ok, now.ok.0)) c.index_mut-rows.ensures.value

pub returns-in_err-insert-clause-err : goal.returns-in_err-insert-clause-err
returns-in_err-insert-clause-err c =
    let is = c.self.inside in
    let now = c.keep_up_to.new.origins in
    let left = c.in_err-insert.ensures.err in
    let here = c.index_mut-rows.ensures.value in
    let same : (other : ℕ) → rows_at (set now.items c.args.name.origin c.index_mut-rows.result.now) other ≡ rows_at is.origins.items other = (λ other. set_back now.items c.args.name.origin c.index_mut-rows.result.now (omega (arith, c.in_ok-keep_up_to.ensures.ok, now.ok.0)) here other ∙ c.keep_up_to.ensures.same other) in
    on_err c.from_residual-in_err-insert.result (
      ap (λ row. listed (known_in (set now.items c.args.name.origin row)) c.reserve.new.self.items) left.0
          ∙ ap (listed (known_in (set now.items c.args.name.origin c.index_mut-rows.result.now))) c.reserve.ensures.items
          ∙ kept_is is.origins.items is.order.items c.args.self.now c.self.view_is c.self.invariant (set now.items c.args.name.origin c.index_mut-rows.result.now) same,
      left.1,
    )

-- one name more
pub invariant_of-self-2 : goal.invariant_of-self-2
invariant_of-self-2 c =
    let is = c.self.inside in
    let now = c.keep_up_to.new.origins in
    let order : c.push_reserved.new.self.items ≡ is.order.items ++ c.args.name ∷ [] = c.push_reserved.ensures.items ∙ ap (λ (ns : List Name). ns ++ c.args.name ∷ []) c.reserve.ensures.items in
    subst (AreListed (known_in (set now.items c.args.name.origin c.insert.new.self))) (sym order)
    (insert_listed now.items is.order.items c.args.self.now
    (kept_is is.origins.items is.order.items c.args.self.now c.self.view_is c.self.invariant now.items c.keep_up_to.ensures.same)
    (kept_listed is.origins.items is.order.items c.args.self.now c.self.view_is c.self.invariant now.items c.keep_up_to.ensures.same)
    c.args.name c.index_mut-rows.result.now c.requires.new (omega (arith, c.in_ok-keep_up_to.ensures.ok, now.ok.0)) c.index_mut-rows.ensures.value
    c.args.known c.insert.new.self c.in_ok-insert.ensures.ok)

pub returns-clause-ok : goal.returns-clause-ok
returns-clause-ok c =
    let is = c.self.inside in
    let now = c.keep_up_to.new.origins in
    let order : c.push_reserved.new.self.items ≡ is.order.items ++ c.args.name ∷ [] = c.push_reserved.ensures.items ∙ ap (λ (ns : List Name). ns ++ c.args.name ∷ []) c.reserve.ensures.items in
    ap (listed (known_in (set now.items c.args.name.origin c.insert.new.self))) order
    ∙ insert_is now.items is.order.items c.args.self.now
    (kept_is is.origins.items is.order.items c.args.self.now c.self.view_is c.self.invariant now.items c.keep_up_to.ensures.same)
    (kept_listed is.origins.items is.order.items c.args.self.now c.self.view_is c.self.invariant now.items c.keep_up_to.ensures.same)
    c.args.name c.index_mut-rows.result.now c.requires.new (omega (arith, c.in_ok-keep_up_to.ensures.ok, now.ok.0)) c.index_mut-rows.ensures.value
    c.args.known c.insert.new.self c.in_ok-insert.ensures.ok
