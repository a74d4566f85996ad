use Rattle.std.proofs.Common.{◌<◌, arith, sym, ap, ◌∙◌, subst, length}
use Rattle.warp_arena.specs.Changes.{IsPlace}
use Rattle.warp_arena.specs.Shape.{IsAfter, next_in, of_origin}
use Rattle.warp_arena.proofs.Walks.{threads, origin_read}
use Rattle.warp_arena.proofs.Beside.{last_is, before_below, after_last}
use Rattle.warp_arena.proofs.arena.Arena.start_beside.Goals as goal

pub next_of_origin-own_after-requires : goal.next_of_origin-own_after-requires
next_of_origin-own_after-requires c =
    let a = c.self.inside in
    let o = c.args.origin in
    let g = c.args.tag in
    let h : o < length a.by_origin.items = omega (arith, ap (λ v. v.origins) c.self.view_is) in
    let last = last_is a c.self.invariant.whole o g c.args.self.now c.args.own_before c.self.view_is c.requires.own_before in
    subst (λ ns. IsPlace (length ns) c.args.own_before) (sym c.deref.ensures.value)
    (before_below a c.self.invariant.whole o g h c.args.own_before last)

pub returns-else-own_after : goal.returns-else-own_after
returns-else-own_after c = λ _.
    let a = c.self.inside in
    let o = c.args.origin in
    let g = c.args.tag in
    let h : o < length a.by_origin.items = omega (arith, ap (λ v. v.origins) c.self.view_is) in
    let last = last_is a c.self.invariant.whole o g c.args.self.now c.args.own_before c.self.view_is c.requires.own_before in
    let read = ap (λ n. n.ends) (origin_read a.by_origin.items o c.index.result.now h c.index.ensures) in
    let next = c.next_of_origin-own_after.result in
    let is = c.next_of_origin-own_after.ensures ∙ ap (λ ns. next_in c.index.result.now.ends (of_origin ns) c.args.own_before) c.deref.ensures.value
    ∙ ap (λ l. next_in l (threads a).own_links c.args.own_before) read in
    subst (λ v. IsAfter o g next v.places) c.self.view_is (after_last a c.self.invariant.whole o g h c.args.own_before last next is c.if-own_after.false)
