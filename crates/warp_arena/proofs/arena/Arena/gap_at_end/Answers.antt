use Rattle.std.proofs.Common.{◌<◌, arith, ap, sym, ◌∙◌, subst, length}
use Rattle.warp_arena.specs.Changes.{IsPassed, IsPlace}
use Rattle.warp_arena.specs.Shape.{next_in}
use Rattle.warp_arena.proofs.Walks.{threads, used, owned, Listed-past, Listed-tags, Listed-origin, origin_read}
use Rattle.warp_arena.proofs.Gaps.{tag_after, own_after}
use Rattle.warp_arena.proofs.Ends.{behind_all, end_below, end_last, own_passed, own_end_last, absent}
use Rattle.warp_arena.proofs.arena.Arena.gap_at_end.Goals as goal

pub is_passed-requires : goal.is_passed-requires
is_passed-requires c =
    let a = c.self.inside in
    subst (λ ns. IsPlace (length ns) a.ends.prev) (sym c.deref.ensures.value) (end_below a c.self.invariant.whole c.args.origin c.args.tag)

pub returns-then-is_passed-clause-gap : goal.returns-then-is_passed-clause-gap
returns-then-is_passed-clause-gap c =
    let a = c.self.inside in
    let w = c.self.invariant.whole in
    let o = c.args.origin in
    let g = c.args.tag in
    let v = c.args.self.now in
    let h : o < length a.by_origin.items = omega (arith, ap (λ u. u.origins) c.self.view_is) in
    let at = c.index.result.now.ends.prev in
    let own = ap (λ n. n.ends.prev) (origin_read a.by_origin.items o c.index.result.now h c.index.ensures) in
    let passed = subst (λ ns. IsPassed o g ns a.ends.prev) c.deref.ensures.value (c.is_passed.ensures c.if-is_passed.true) in
    let before = end_last a w o g v c.self.view_is passed in
    let own_before = own_end_last a w o g h at own v c.self.view_is (own_passed a w o g passed h at own) in
    record {
      before = before;
      after = sym (Listed-past (length a.nodes.items) a.ends (threads a).links (used a) (Listed-tags a w)) ∙ tag_after a w o g v c.self.view_is a.ends.prev before;
      own_before = own_before;
      own_after =
          sym (ap (next_in ((threads a).own_ends o) (threads a).own_links) own
          ∙ Listed-past (length a.nodes.items) ((threads a).own_ends o) (threads a).own_links (owned a o) (Listed-origin a w o h))
          ∙ own_after a w o g v c.self.view_is h at own_before;
    }

pub returns-then-is_passed-clause-absent : goal.returns-then-is_passed-clause-absent
returns-then-is_passed-clause-absent c =
    let a = c.self.inside in
    let w = c.self.invariant.whole in
    let o = c.args.origin in
    let g = c.args.tag in
    let h : o < length a.by_origin.items = omega (arith, ap (λ u. u.origins) c.self.view_is) in
    let at = c.index.result.now.ends.prev in
    let own = ap (λ n. n.ends.prev) (origin_read a.by_origin.items o c.index.result.now h c.index.ensures) in
    let passed = subst (λ ns. IsPassed o g ns a.ends.prev) c.deref.ensures.value (c.is_passed.ensures c.if-is_passed.true) in
    absent a w o g h at own c.args.self.now c.self.view_is (own_passed a w o g passed h at own)

pub returns-then-is_passed-clause-behind : goal.returns-then-is_passed-clause-behind
returns-then-is_passed-clause-behind c =
    let a = c.self.inside in
    let o = c.args.origin in
    let g = c.args.tag in
    let passed = subst (λ ns. IsPassed o g ns a.ends.prev) c.deref.ensures.value (c.is_passed.ensures c.if-is_passed.true) in
    behind_all a c.self.invariant.whole o g passed c.args.self.now c.self.view_is
