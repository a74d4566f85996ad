use Rattle.std.proofs.Common.{◌≡◌, arith, sym, ap, ◌∙◌, subst, IsSome, IfSome, Some, None, cond, eqb, get_or}
use Rattle.warp_arena.specs.Places.{entry_of, first_node, origin_of, places_after, places_of}
use Rattle.warp_arena.specs.declared.node.TheConstants.{NO_NODE}
use Rattle.warp_arena.proofs.Walks.{node_read}
use Rattle.warp_arena.proofs.Reading.{used_found_below, next_of_origin_found}
use Rattle.warp_arena.proofs.arena.Arena.next_of_origin.Goals as goal

pub index-requires-2 : goal.index-requires-2
index-requires-2 c =
    let a = c.self.inside in
    let h = subst (λ v. IsSome (entry_of c.args.node v.places)) (sym c.self.view_is) c.requires in
    omega (arith, a.nodes.ok.0, used_found_below a c.self.invariant.whole c.args.node h, c.index.ensures)

pub returns-clause-handle : goal.returns-clause-handle
returns-clause-handle c =
    let a = c.self.inside in
    let h = subst (λ v. IsSome (entry_of c.args.node v.places)) (sym c.self.view_is) c.requires in
    let read = node_read a.nodes.items c.args.node c.index-2.result.now (used_found_below a c.self.invariant.whole c.args.node h) (subst (λ i. c.index-2.result.now ≡ get_or a.nodes.items i c.index-2.result.now) c.index.ensures c.index-2.ensures) in
    let r = next_of_origin_found a c.self.invariant.whole c.args.node h c.index-2.result.now.of_origin.next (ap (λ n. n.of_origin.next) read) in
    c.handle.ensures ∙ r.handle ∙ ap (λ v. first_node (places_of (origin_of c.args.node v.places) (places_after c.args.node v.places))) c.self.view_is

pub returns-clause-used : goal.returns-clause-used
returns-clause-used c =
    let a = c.self.inside in
    let h = subst (λ v. IsSome (entry_of c.args.node v.places)) (sym c.self.view_is) c.requires in
    let read = node_read a.nodes.items c.args.node c.index-2.result.now (used_found_below a c.self.invariant.whole c.args.node h) (subst (λ i. c.index-2.result.now ≡ get_or a.nodes.items i c.index-2.result.now) c.index.ensures c.index-2.ensures) in
    let r = next_of_origin_found a c.self.invariant.whole c.args.node h c.index-2.result.now.of_origin.next (ap (λ n. n.of_origin.next) read) in
    subst (λ x. IfSome x (λ at. IsSome (entry_of at c.args.self.now.places))) (sym c.handle.ensures)
    (subst (λ v. IfSome (cond (eqb c.index-2.result.now.of_origin.next NO_NODE) None (Some c.index-2.result.now.of_origin.next)) (λ at. IsSome (entry_of at v.places))) c.self.view_is r.used)
