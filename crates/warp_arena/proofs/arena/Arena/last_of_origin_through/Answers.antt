use Rattle.std.proofs.Common.{◌<◌, arith, sym, ap, ◌∙◌, subst, length}
use Rattle.warp_tag.specs.Table.{name_before}
use Rattle.warp_arena.specs.Places.{places_of}
use Rattle.warp_arena.specs.Shape.{last_not_after, IsAfter}
use Rattle.warp_arena.proofs.Tables.{places_of-members, last_of_places}
use Rattle.warp_arena.proofs.Walks.{threads, used, owned, Listed-origin, origin_read, walk_below, walk_back, walk_nearer, walk_end, walk_stop}
use Rattle.warp_arena.proofs.Touching.{starts_of_origin}
use Rattle.warp_arena.proofs.arena.Arena.last_of_origin_through.Goals as goal

pub loop-at-init : goal.loop-at-init
loop-at-init c =
    let a = c.self.inside in
    let h : c.args.origin < length a.by_origin.items = omega (arith, ap (λ v. v.origins) c.self.view_is) in
    starts_of_origin a c.self.invariant.whole c.args.origin c.args.tag c.start_near-at.result h c.index.result.now.ends.prev (ap (λ n. n.ends.prev) (origin_read a.by_origin.items c.args.origin _ h c.index.ensures))
    (λ n. subst (λ v. IsAfter c.args.origin c.args.tag c.start_near-at.result v.places) (sym c.self.view_is) (c.start_near-at.ensures n))

pub index-requires-in-loop-at : goal.index-requires-in-loop-at
index-requires-in-loop-at c =
    let a = c.self.inside in
    let h : c.args.origin < length a.by_origin.items = omega (arith, ap (λ v. v.origins) c.self.view_is) in
    omega (arith, a.nodes.ok.0, walk_below a.nodes.items (λ n. n.of_origin) ((threads a).own_ends c.args.origin) (owned a c.args.origin) (Listed-origin a c.self.invariant.whole c.args.origin h) (name_before c.args.origin c.args.tag) c.loop-at.at c.loop-at.invariant c.loop-at-test.true)

pub index-requires-in-loop-at-2 : goal.index-requires-in-loop-at-2
index-requires-in-loop-at-2 c =
    let a = c.self.inside in
    let h : c.args.origin < length a.by_origin.items = omega (arith, ap (λ v. v.origins) c.self.view_is) in
    omega (arith, a.nodes.ok.0, walk_below a.nodes.items (λ n. n.of_origin) ((threads a).own_ends c.args.origin) (owned a c.args.origin) (Listed-origin a c.self.invariant.whole c.args.origin h) (name_before c.args.origin c.args.tag) c.loop-at.at c.loop-at.invariant c.loop-at-test.true)

pub loop-at-smaller : goal.loop-at-smaller
loop-at-smaller c =
    let a = c.self.inside in
    let h : c.args.origin < length a.by_origin.items = omega (arith, ap (λ v. v.origins) c.self.view_is) in
    walk_nearer a.nodes.items (λ n. n.of_origin) ((threads a).own_ends c.args.origin) (owned a c.args.origin) (Listed-origin a c.self.invariant.whole c.args.origin h) (name_before c.args.origin c.args.tag) c.loop-at.at c.loop-at.invariant c.loop-at-test.true _ c.index-in-loop-at-2.ensures

pub loop-at-preserved : goal.loop-at-preserved
loop-at-preserved c =
    let a = c.self.inside in
    let h : c.args.origin < length a.by_origin.items = omega (arith, ap (λ v. v.origins) c.self.view_is) in
    walk_back a.nodes.items (λ n. n.of_origin) ((threads a).own_ends c.args.origin) (owned a c.args.origin) (Listed-origin a c.self.invariant.whole c.args.origin h) (name_before c.args.origin c.args.tag) c.loop-at.at c.loop-at.invariant c.loop-at-test.true _ _ c.index-in-loop-at.ensures (sym c.comes_after.ensures ∙ c.if-comes_after.true) c.index-in-loop-at-2.ensures

pub returns-else-comes_after : goal.returns-else-comes_after
returns-else-comes_after c =
    let a = c.self.inside in
    let h : c.args.origin < length a.by_origin.items = omega (arith, ap (λ v. v.origins) c.self.view_is) in
    walk_stop a.nodes.items (λ n. n.of_origin) ((threads a).own_ends c.args.origin) (owned a c.args.origin) (Listed-origin a c.self.invariant.whole c.args.origin h) (name_before c.args.origin c.args.tag) c.loop-at.at c.loop-at.invariant c.loop-at-test.true _ c.index-in-loop-at.ensures (sym c.comes_after.ensures ∙ c.if-comes_after.false)
    ∙ last_of_places c.args.origin c.args.tag (threads a).entry (owned a c.args.origin)
    ∙ ap (λ ps. last_not_after c.args.origin c.args.tag ps) (sym (places_of-members (threads a).entry c.args.origin (used a)))
    ∙ ap (λ v. last_not_after c.args.origin c.args.tag (places_of c.args.origin v.places)) c.self.view_is

pub returns-after-loop-at : goal.returns-after-loop-at
returns-after-loop-at c =
    let a = c.self.inside in
    let h : c.args.origin < length a.by_origin.items = omega (arith, ap (λ v. v.origins) c.self.view_is) in
    walk_end a.nodes.items (λ n. n.of_origin) ((threads a).own_ends c.args.origin) (owned a c.args.origin) (Listed-origin a c.self.invariant.whole c.args.origin h) (name_before c.args.origin c.args.tag) c.loop-at.at c.loop-at.invariant c.loop-at-test.false
    ∙ last_of_places c.args.origin c.args.tag (threads a).entry (owned a c.args.origin)
    ∙ ap (λ ps. last_not_after c.args.origin c.args.tag ps) (sym (places_of-members (threads a).entry c.args.origin (used a)))
    ∙ ap (λ v. last_not_after c.args.origin c.args.tag (places_of c.args.origin v.places)) c.self.view_is
