-- a walk along the tag list starts at a hint, or at the origin's next node where that is nearer
use Rattle.std.proofs.Common.{◌<◌, ℕ, length, get_or, refl, sym, subst, arith}
use Rattle.warp_arena.specs.Shape.{IsAfter, IsBehind}
use Rattle.warp_arena.proofs.Hinted.{hints_below, behind_below, nearest_behind}
use Rattle.warp_arena.proofs.arena.Arena.start_near_beside.Goals as goal

pub tag_hint-hint-requires : goal.tag_hint-hint-requires
tag_hint-hint-requires c =
    let a = c.self.inside in
    subst (λ hs. (k d : ℕ) → k < length hs → get_or hs k d < length c.deref-3.result.now) (sym c.deref-2.ensures.value)
    (subst (λ ns. (k d : ℕ) → k < length a.hints.items → get_or a.hints.items k d < length ns) (sym c.deref-3.ensures.value)
    (hints_below (length a.nodes.items) a.hints.items c.self.invariant.hinted))

pub index-requires-2 : goal.index-requires-2
index-requires-2 c =
    let a = c.self.inside in
    let o = c.args.origin in
    let g = c.args.tag in
    let hint = c.tag_hint-hint.result in
    let at = c.start_beside-own_after.result in
    let after = nearest_behind a c.self.invariant o g hint at c.deref-3.result.now c.deref-3.ensures.value (c.tag_hint-hint.ensures c.if-hint.false)
    (λ n. subst (λ v. IsAfter o g at v.places) (sym c.self.view_is) (c.start_beside-own_after.ensures n)) in
    omega (arith, a.nodes.ok.0, behind_below a c.self.invariant o g at after)

pub returns-then-comes_after : goal.returns-then-comes_after
returns-then-comes_after c = λ _.
    let a = c.self.inside in
    let o = c.args.origin in
    let g = c.args.tag in
    let hint = c.tag_hint-hint.result in
    let at = c.start_beside-own_after.result in
    subst (λ v. IsBehind o g at v.places) c.self.view_is
    (nearest_behind a c.self.invariant o g hint at c.deref-3.result.now c.deref-3.ensures.value (c.tag_hint-hint.ensures c.if-hint.false)
    (λ n. subst (λ v. IsAfter o g at v.places) (sym c.self.view_is) (c.start_beside-own_after.ensures n)))

pub returns-else-comes_after : goal.returns-else-comes_after
returns-else-comes_after c = λ _.
    let a = c.self.inside in
    let o = c.args.origin in
    let g = c.args.tag in
    let hint = c.tag_hint-hint.result in
    subst (λ v. IsBehind o g hint v.places) c.self.view_is
    (nearest_behind a c.self.invariant o g hint hint c.deref-3.result.now c.deref-3.ensures.value (c.tag_hint-hint.ensures c.if-hint.false)
    (λ n. absurd (n refl)))
