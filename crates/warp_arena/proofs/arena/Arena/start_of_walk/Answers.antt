use Rattle.std.proofs.Common.{◌<◌, arith, ap, sym, ◌∙◌, subst, length}
use Rattle.warp_arena.specs.Shape.{IsAfter}
use Rattle.warp_arena.proofs.Walks.{node_read, origin_read}
use Rattle.warp_arena.proofs.Touching.{touched_below, touched_after}
use Rattle.warp_arena.proofs.arena.Arena.start_of_walk.Goals as goal

pub index-requires-then-touched : goal.index-requires-then-touched
index-requires-then-touched c =
    let a = c.self.inside in
    let h : c.args.origin < length a.by_origin.items = omega (arith, ap (λ v. v.origins) c.self.view_is) in
    let read = origin_read a.by_origin.items c.args.origin c.index.result.now h c.index.ensures in
    omega (arith, a.nodes.ok.0, touched_below a c.self.invariant.whole c.args.origin h c.index.result.now read c.if-touched.true)

pub returns-then-comes_after : goal.returns-then-comes_after
returns-then-comes_after c = λ _.
    let a = c.self.inside in
    let own = c.index.result.now in
    let h : c.args.origin < length a.by_origin.items = omega (arith, ap (λ v. v.origins) c.self.view_is) in
    let read = origin_read a.by_origin.items c.args.origin own h c.index.ensures in
    let below = touched_below a c.self.invariant.whole c.args.origin h own read c.if-touched.true in
    let node = node_read a.nodes.items own.touched c.index-then-touched.result.now below c.index-then-touched.ensures in
    subst (λ v. IsAfter c.args.origin c.args.tag own.touched v.places) c.self.view_is
    (touched_after a c.self.invariant.whole c.args.origin h own read c.if-touched.true c.args.tag c.index-then-touched.result.now node
    (sym c.comes_after.ensures ∙ c.if-comes_after.true))
