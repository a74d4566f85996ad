use Rattle.std.proofs.Common.{◌≡◌, ℕ, arith, sym, ap, ◌∙◌, subst, IsSome, IfSome, MatchOption, Option, Some, None, cond, eqb, get_or, List}
use Rattle.warp_arena.specs.Places.{Place, entry_of, last_node, places_from, places_after, places_before}
use Rattle.warp_arena.specs.declared.node.TheConstants.{NO_NODE}
use Rattle.warp_arena.proofs.Walks.{node_read}
use Rattle.warp_arena.proofs.Reading.{used_found_below, prev_found}
use Rattle.warp_arena.proofs.arena.Arena.prev.Goals as goal

-- the handle of a link
abbrev handle_of : ℕ → Option ℕ
handle_of k = cond (eqb k NO_NODE) None (Some k)

-- what is left before a handle
abbrev LeftBefore : ℕ → List Place → Option ℕ → Type 0
LeftBefore node places at =
    MatchOption at (places_from node places ≡ places) (λ k. places_after k places ≡ places_from node places)

pub index-requires-2 : goal.index-requires-2
index-requires-2 c =
    let a = c.self.inside in
    let h = subst (λ v. IsSome (entry_of c.args.node v.places)) (sym c.self.view_is) c.requires in
    omega (arith, a.nodes.ok.0, used_found_below a c.self.invariant.whole c.args.node h, c.index.ensures)

pub returns-clause-handle : goal.returns-clause-handle
returns-clause-handle c =
    let a = c.self.inside in
    let h = subst (λ v. IsSome (entry_of c.args.node v.places)) (sym c.self.view_is) c.requires in
    let read = node_read a.nodes.items c.args.node c.index-2.result.now (used_found_below a c.self.invariant.whole c.args.node h) (subst (λ i. c.index-2.result.now ≡ get_or a.nodes.items i c.index-2.result.now) c.index.ensures c.index-2.ensures) in
    let r = prev_found a c.self.invariant.whole c.args.node h c.index-2.result.now.by_tag.prev (ap (λ n. n.by_tag.prev) read) in
    c.handle.ensures ∙ r.handle ∙ ap (λ v. last_node (places_before c.args.node v.places)) c.self.view_is

pub returns-clause-used : goal.returns-clause-used
returns-clause-used c =
    let a = c.self.inside in
    let h = subst (λ v. IsSome (entry_of c.args.node v.places)) (sym c.self.view_is) c.requires in
    let read = node_read a.nodes.items c.args.node c.index-2.result.now (used_found_below a c.self.invariant.whole c.args.node h) (subst (λ i. c.index-2.result.now ≡ get_or a.nodes.items i c.index-2.result.now) c.index.ensures c.index-2.ensures) in
    let r = prev_found a c.self.invariant.whole c.args.node h c.index-2.result.now.by_tag.prev (ap (λ n. n.by_tag.prev) read) in
    subst (λ x. IfSome x (λ at. IsSome (entry_of at c.args.self.now.places))) (sym c.handle.ensures)
    (subst (λ v. IfSome (handle_of c.index-2.result.now.by_tag.prev) (λ at. IsSome (entry_of at v.places))) c.self.view_is r.used)

pub returns-clause-left : goal.returns-clause-left
returns-clause-left c =
    let a = c.self.inside in
    let h = subst (λ v. IsSome (entry_of c.args.node v.places)) (sym c.self.view_is) c.requires in
    let read = node_read a.nodes.items c.args.node c.index-2.result.now (used_found_below a c.self.invariant.whole c.args.node h) (subst (λ i. c.index-2.result.now ≡ get_or a.nodes.items i c.index-2.result.now) c.index.ensures c.index-2.ensures) in
    let r = prev_found a c.self.invariant.whole c.args.node h c.index-2.result.now.by_tag.prev (ap (λ n. n.by_tag.prev) read) in
    subst (λ x. LeftBefore c.args.node c.args.self.now.places x) (sym c.handle.ensures)
    (subst (λ v. LeftBefore c.args.node v.places (handle_of c.index-2.result.now.by_tag.prev)) c.self.view_is r.left)
