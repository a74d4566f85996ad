-- behind the block that begins before the tag none is before it, and in front of it all are
use Rattle.std.proofs.Common.{◌≡◌, ◌+◌, ◌-◌, ◌<◌, ◌∙◌, Vec, Global, List, ap, drop, get_or, length, suc, subst, sym, take, arith, true, false}
use Rattle.std.specs.Vec.{vec_items}
use Rattle.warp_tag.specs.Moment.{Moment}
use Rattle.warp_table.specs.inner.Blocks.{AreOrdered, begins_before, flat}
use Rattle.warp_table.specs.inner.Heard.{count_before}
use Rattle.warp_table.proofs.BlockLists.{block_ordered}
use Rattle.warp_table.proofs.CountedTags.{behind_next, found_in, front_next}
use Rattle.warp_table.proofs.tags.count_in_blocks.Goals as goal

pub count_in_order-requires : goal.count_in_order-requires
count_in_order-requires c =
    let within : c.loop-at.at - 1 < length c.args.blocks.now = omega (arith, c.loop-at-test.true, c.loop-at.invariant.within) in
    subst (AreOrdered (λ t. t)) (sym c.deref-then-begins_before.ensures.value)
    (subst (λ (v : Vec Moment Global). AreOrdered (λ t. t) v.items) (sym c.index-blocks-at.is)
    (block_ordered vec_items (λ t. t) c.args.blocks.now (c.loop-at.at - 1) c.index-blocks-at.result within c.requires.in_order))

pub returns-then-begins_before : goal.returns-then-begins_before
returns-then-begins_before c =
    let bs = c.args.blocks.now in
    let at = c.loop-at.at - 1 in
    let v = c.index-blocks-at.result in
    let within : at < length bs = omega (arith, c.loop-at-test.true, c.loop-at.invariant.within) in
    let next : suc at ≡ c.loop-at.at = omega (arith, c.loop-at-test.true) in
    let first : begins_before c.args.tag (get_or bs at v).items ≡ true =
    ap (λ (w : Vec Moment Global). begins_before c.args.tag w.items) (sym c.index-blocks-at.is) ∙ ap (begins_before c.args.tag) (sym c.deref.ensures.value) ∙ sym c.begins_before.ensures ∙ c.if-begins_before.true in
    let behind : count_before c.args.tag (flat vec_items (drop (suc at) bs)) ≡ 0 = ap (λ n. count_before c.args.tag (flat vec_items (drop n bs))) next ∙ c.loop-at.invariant.behind in
    let all : count_before c.args.tag (flat vec_items bs) ≡ length (flat vec_items (take at bs)) + count_before c.args.tag (get_or bs at v).items =
    found_in c.args.tag vec_items bs at v within c.requires.in_order first behind in
    let front : length (flat vec_items (take (suc at) bs)) ≡ length (flat vec_items (take at bs)) + length (get_or bs at v).items = front_next c.args.tag vec_items bs at v within in
    let count : c.loop-at.count ≡ length (flat vec_items (take (suc at) bs)) = c.loop-at.invariant.count ∙ ap (λ n. length (flat vec_items (take n bs))) (sym next) in
    let long : length v.items ≡ length (get_or bs at v).items = ap (λ (w : Vec Moment Global). length w.items) c.index-blocks-at.is in
    let here : c.count_in_order.result ≡ count_before c.args.tag (get_or bs at v).items =
    c.count_in_order.ensures.count ∙ ap (count_before c.args.tag) (c.deref-then-begins_before.ensures.value ∙ ap (λ (w : Vec Moment Global). w.items) c.index-blocks-at.is) in
    let few = c.count_in_order.ensures.within in
    let deref : length c.deref-then-begins_before.result.now ≡ length v.items = ap (λ (l : List Moment). length l) c.deref-then-begins_before.ensures.value in
    omega (arith, all, front, count, long, here, few, deref, c.len.ensures, v.ok.0)

pub loop-at-preserved : goal.loop-at-preserved
loop-at-preserved c =
    let bs = c.args.blocks.now in
    let at = c.loop-at.at - 1 in
    let v = c.index-blocks-at.result in
    let within : at < length bs = omega (arith, c.loop-at-test.true, c.loop-at.invariant.within) in
    let next : suc at ≡ c.loop-at.at = omega (arith, c.loop-at-test.true) in
    let first : begins_before c.args.tag (get_or bs at v).items ≡ false =
    ap (λ (w : Vec Moment Global). begins_before c.args.tag w.items) (sym c.index-blocks-at.is) ∙ ap (begins_before c.args.tag) (sym c.deref.ensures.value) ∙ sym c.begins_before.ensures ∙ c.if-begins_before.false in
    let behind : count_before c.args.tag (flat vec_items (drop (suc at) bs)) ≡ 0 = ap (λ n. count_before c.args.tag (flat vec_items (drop n bs))) next ∙ c.loop-at.invariant.behind in
    let front : length (flat vec_items (take (suc at) bs)) ≡ length (flat vec_items (take at bs)) + length (get_or bs at v).items = front_next c.args.tag vec_items bs at v within in
    let count : c.loop-at.count ≡ length (flat vec_items (take (suc at) bs)) = c.loop-at.invariant.count ∙ ap (λ n. length (flat vec_items (take n bs))) (sym next) in
    let long : length v.items ≡ length (get_or bs at v).items = ap (λ (w : Vec Moment Global). length w.items) c.index-blocks-at.is in
    record {
      within = omega (arith, within);
      count = omega (arith, front, count, long, c.len-count.ensures, v.ok.0);
      behind = behind_next c.args.tag vec_items bs at v within c.requires.in_order first behind;
    }
