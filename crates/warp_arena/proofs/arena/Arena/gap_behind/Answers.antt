use Rattle.std.proofs.Common.{◌<◌, arith, ap, sym, ◌∙◌, subst, length}
use Rattle.warp_arena.specs.Changes.{IsPlace}
use Rattle.warp_arena.specs.Shape.{next_in, by_tag, of_origin}
use Rattle.warp_arena.proofs.Walks.{threads, origin_read}
use Rattle.warp_arena.proofs.Gaps.{tag_below, tag_after, own_below, own_after}
use Rattle.warp_arena.proofs.arena.Arena.gap_behind.Goals as goal

pub next_by_tag-requires : goal.next_by_tag-requires
next_by_tag-requires c =
    subst (λ ns. IsPlace (length ns) c.args.before) (sym c.deref.ensures.value)
    (tag_below c.self.inside c.self.invariant.whole c.args.origin c.args.tag c.args.self.now c.self.view_is c.args.before c.requires.before)

pub next_of_origin-requires : goal.next_of_origin-requires
next_of_origin-requires c =
    let a = c.self.inside in
    let h : c.args.origin < length a.by_origin.items = omega (arith, ap (λ u. u.origins) c.self.view_is) in
    subst (λ ns. IsPlace (length ns) c.args.own_before) (sym c.deref-2.ensures.value)
    (own_below a c.self.invariant.whole c.args.origin c.args.tag c.args.self.now c.self.view_is h c.args.own_before c.requires.own_before)

pub returns : goal.returns
returns c =
    let a = c.self.inside in
    let w = c.self.invariant.whole in
    let o = c.args.origin in
    let g = c.args.tag in
    let v = c.args.self.now in
    let at = c.args.own_before in
    let h : o < length a.by_origin.items = omega (arith, ap (λ u. u.origins) c.self.view_is) in
    let read = ap (λ n. n.ends) (origin_read a.by_origin.items o c.index.result.now h c.index.ensures) in
    record {
      before = c.requires.before;
      after =
          c.next_by_tag.ensures ∙ ap (λ ns. next_in a.ends (by_tag ns) c.args.before) c.deref.ensures.value
          ∙ tag_after a w o g v c.self.view_is c.args.before c.requires.before;
      own_before = c.requires.own_before;
      own_after =
          c.next_of_origin.ensures ∙ ap (λ ns. next_in c.index.result.now.ends (of_origin ns) at) c.deref-2.ensures.value
          ∙ ap (λ l. next_in l (threads a).own_links at) read
          ∙ own_after a w o g v c.self.view_is h at c.requires.own_before;
    }
