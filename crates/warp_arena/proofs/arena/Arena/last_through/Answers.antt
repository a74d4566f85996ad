use Rattle.std.proofs.Common.{arith, sym, ap, ◌∙◌, subst}
use Rattle.warp_tag.specs.Table.{name_before}
use Rattle.warp_arena.specs.Shape.{last_not_after, IsBehind}
use Rattle.warp_arena.proofs.Tables.{last_of_places}
use Rattle.warp_arena.proofs.Walks.{threads, used, Listed-tags, walk_below, walk_back, walk_nearer, walk_end, walk_stop}
use Rattle.warp_arena.proofs.Touching.{starts_by_tag}
use Rattle.warp_arena.proofs.arena.Arena.last_through.Goals as goal

pub loop-at-init : goal.loop-at-init
loop-at-init c =
    let a = c.self.inside in
    starts_by_tag a c.self.invariant.whole c.args.origin c.args.tag c.start_near_beside-at.result
    (λ n. subst (λ v. IsBehind c.args.origin c.args.tag c.start_near_beside-at.result v.places) (sym c.self.view_is) (c.start_near_beside-at.ensures n))

pub index-requires : goal.index-requires
index-requires c =
    let a = c.self.inside in
    omega (arith, a.nodes.ok.0, walk_below a.nodes.items (λ n. n.by_tag) a.ends (used a) (Listed-tags a c.self.invariant.whole) (name_before c.args.origin c.args.tag) c.loop-at.at c.loop-at.invariant c.loop-at-test.true)

pub index-requires-in-loop-at : goal.index-requires-in-loop-at
index-requires-in-loop-at c =
    let a = c.self.inside in
    omega (arith, a.nodes.ok.0, walk_below a.nodes.items (λ n. n.by_tag) a.ends (used a) (Listed-tags a c.self.invariant.whole) (name_before c.args.origin c.args.tag) c.loop-at.at c.loop-at.invariant c.loop-at-test.true)

pub loop-at-smaller : goal.loop-at-smaller
loop-at-smaller c =
    let a = c.self.inside in
    walk_nearer a.nodes.items (λ n. n.by_tag) a.ends (used a) (Listed-tags a c.self.invariant.whole) (name_before c.args.origin c.args.tag) c.loop-at.at c.loop-at.invariant c.loop-at-test.true _ c.index-in-loop-at.ensures

pub loop-at-preserved : goal.loop-at-preserved
loop-at-preserved c =
    let a = c.self.inside in
    walk_back a.nodes.items (λ n. n.by_tag) a.ends (used a) (Listed-tags a c.self.invariant.whole) (name_before c.args.origin c.args.tag) c.loop-at.at c.loop-at.invariant c.loop-at-test.true _ _ c.index.ensures (sym c.comes_after.ensures ∙ c.if-comes_after.true) c.index-in-loop-at.ensures

pub returns-else-comes_after : goal.returns-else-comes_after
returns-else-comes_after c =
    let a = c.self.inside in
    walk_stop a.nodes.items (λ n. n.by_tag) a.ends (used a) (Listed-tags a c.self.invariant.whole) (name_before c.args.origin c.args.tag) c.loop-at.at c.loop-at.invariant c.loop-at-test.true _ c.index.ensures (sym c.comes_after.ensures ∙ c.if-comes_after.false)
    ∙ last_of_places c.args.origin c.args.tag (threads a).entry (used a)
    ∙ ap (λ v. last_not_after c.args.origin c.args.tag v.places) c.self.view_is

pub returns-after-loop-at : goal.returns-after-loop-at
returns-after-loop-at c =
    let a = c.self.inside in
    walk_end a.nodes.items (λ n. n.by_tag) a.ends (used a) (Listed-tags a c.self.invariant.whole) (name_before c.args.origin c.args.tag) c.loop-at.at c.loop-at.invariant c.loop-at-test.false
    ∙ last_of_places c.args.origin c.args.tag (threads a).entry (used a)
    ∙ ap (λ v. last_not_after c.args.origin c.args.tag v.places) c.self.view_is
