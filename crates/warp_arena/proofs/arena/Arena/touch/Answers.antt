use Rattle.std.proofs.Common.{refl, arith, sym, subst, IsSome}
use Rattle.warp_arena.specs.Places.{entry_of}
use Rattle.warp_arena.proofs.Reading.{used_found_below}
use Rattle.warp_arena.proofs.Touching.{read_declared, whole_touched}
use Rattle.warp_arena.proofs.Hinted.{IsHinted-kept}
use Rattle.warp_arena.proofs.Walks.{threads}
use Rattle.warp_arena.proofs.Reading.{places}
use Rattle.warp_arena.proofs.arena.Arena.touch.Goals as goal

pub index-requires : goal.index-requires
index-requires c =
    let a = c.self.inside in
    let h = subst (λ v. IsSome (entry_of c.args.node v.places)) (sym c.self.view_is) c.requires in
    omega (arith, a.nodes.ok.0, used_found_below a c.self.invariant.whole c.args.node h, c.index-at.ensures)

pub index_mut-requires : goal.index_mut-requires
index_mut-requires c =
    let a = c.self.inside in
    let h = subst (λ v. IsSome (entry_of c.args.node v.places)) (sym c.self.view_is) c.requires in
    omega (arith, a.by_origin.ok.0, read_declared a c.self.invariant.whole c.args.node h c.index-at.result c.index-at.ensures c.index.result.now c.index.ensures c.origin-origin.result c.origin-origin.ensures)

pub invariant_of-self : goal.invariant_of-self
invariant_of-self c =
    let a = c.self.inside in
    let h = subst (λ v. IsSome (entry_of c.args.node v.places)) (sym c.self.view_is) c.requires in
    IsHinted-kept (threads a) _ a.used a.used a.hints.items a.own_hints.items (places a) c.self.invariant
    (whole_touched a c.self.invariant.whole c.args.node h c.index-at.result c.index-at.ensures c.index.result.now c.index.ensures c.origin-origin.result c.origin-origin.ensures c.index_mut.result.now c.index_mut.ensures.value)
    refl (omega arith) c.self.invariant.used
