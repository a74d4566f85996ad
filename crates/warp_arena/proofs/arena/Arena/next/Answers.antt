use Rattle.std.proofs.Common.{◌≡◌, arith, sym, ap, subst, IsSome, get_or}
use Rattle.warp_arena.specs.Places.{Reaches, entry_of, places_after}
use Rattle.warp_arena.proofs.Walks.{node_read}
use Rattle.warp_arena.proofs.Reading.{places, used_found_below, next_found}
use Rattle.warp_arena.proofs.arena.Arena.next.Goals as goal

pub index-requires-2 : goal.index-requires-2
index-requires-2 c =
    let a = c.self.inside in
    let h = subst (λ v. IsSome (entry_of c.args.node v.places)) (sym c.self.view_is) c.requires in
    omega (arith, a.nodes.ok.0, used_found_below a c.self.invariant.whole c.args.node h, c.index.ensures)

pub returns : goal.returns
returns c =
    let a = c.self.inside in
    let h = subst (λ v. IsSome (entry_of c.args.node v.places)) (sym c.self.view_is) c.requires in
    let read = node_read a.nodes.items c.args.node c.index-2.result.now (used_found_below a c.self.invariant.whole c.args.node h) (subst (λ i. c.index-2.result.now ≡ get_or a.nodes.items i c.index-2.result.now) c.index.ensures c.index-2.ensures) in
    subst (λ v. Reaches v.places (places_after c.args.node v.places) c.handle.result) c.self.view_is
    (subst (λ r. Reaches (places a) (places_after c.args.node (places a)) r) (sym c.handle.ensures)
    (next_found a c.self.invariant.whole c.args.node h c.index-2.result.now.by_tag.next (ap (λ n. n.by_tag.next) read)))
