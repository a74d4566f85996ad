-- a walk starts at a hint, or at the touched node where that is nearer
use Rattle.std.proofs.Common.{◌<◌, ℕ, length, get_or, refl, sym, subst, arith}
use Rattle.warp_arena.specs.Shape.{IsAfter}
use Rattle.warp_arena.proofs.Hinted.{hints_below, after_below, nearest_after}
use Rattle.warp_arena.proofs.arena.Arena.start_near.Goals as goal

pub near_hint-hint-requires-clause-hints : goal.near_hint-hint-requires-clause-hints
near_hint-hint-requires-clause-hints c =
    let a = c.self.inside in
    subst (λ hs. (k d : ℕ) → k < length hs → get_or hs k d < length c.deref-4.result.now) (sym c.deref-2.ensures.value)
    (subst (λ ns. (k d : ℕ) → k < length a.hints.items → get_or a.hints.items k d < length ns) (sym c.deref-4.ensures.value)
    (hints_below (length a.nodes.items) a.hints.items c.self.invariant.hinted))

pub near_hint-hint-requires-clause-own_hints : goal.near_hint-hint-requires-clause-own_hints
near_hint-hint-requires-clause-own_hints c =
    let a = c.self.inside in
    subst (λ hs. (k d : ℕ) → k < length hs → get_or hs k d < length c.deref-4.result.now) (sym c.deref-3.ensures.value)
    (subst (λ ns. (k d : ℕ) → k < length a.own_hints.items → get_or a.own_hints.items k d < length ns) (sym c.deref-4.ensures.value)
    (hints_below (length a.nodes.items) a.own_hints.items c.self.invariant.own_hinted))

pub index-requires-2 : goal.index-requires-2
index-requires-2 c =
    let a = c.self.inside in
    let o = c.args.origin in
    let g = c.args.tag in
    let hint = c.near_hint-hint.result in
    let at = c.start_of_walk-touched.result in
    let after = nearest_after a c.self.invariant o g hint at c.deref-4.result.now c.deref-4.ensures.value (c.near_hint-hint.ensures c.if-hint.false)
    (λ n. subst (λ v. IsAfter o g at v.places) (sym c.self.view_is) (c.start_of_walk-touched.ensures n)) in
    omega (arith, a.nodes.ok.0, after_below a c.self.invariant o g at after)

pub returns-then-comes_after : goal.returns-then-comes_after
returns-then-comes_after c = λ _.
    let a = c.self.inside in
    let o = c.args.origin in
    let g = c.args.tag in
    let hint = c.near_hint-hint.result in
    let at = c.start_of_walk-touched.result in
    subst (λ v. IsAfter o g at v.places) c.self.view_is
    (nearest_after a c.self.invariant o g hint at c.deref-4.result.now c.deref-4.ensures.value (c.near_hint-hint.ensures c.if-hint.false)
    (λ n. subst (λ v. IsAfter o g at v.places) (sym c.self.view_is) (c.start_of_walk-touched.ensures n)))

pub returns-else-comes_after : goal.returns-else-comes_after
returns-else-comes_after c = λ _.
    let a = c.self.inside in
    let o = c.args.origin in
    let g = c.args.tag in
    let hint = c.near_hint-hint.result in
    subst (λ v. IsAfter o g hint v.places) c.self.view_is
    (nearest_after a c.self.invariant o g hint hint c.deref-4.result.now c.deref-4.ensures.value (c.near_hint-hint.ensures c.if-hint.false)
    (λ n. absurd (n refl)))
