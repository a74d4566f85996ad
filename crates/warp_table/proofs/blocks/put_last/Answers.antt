-- what is beyond all comes last in the last block
use Rattle.std.proofs.Common.{◌≡◌, ◌<◌, ◌-◌, ◌∙◌, ◌++◌, ◌∷◌, [], false, inr, suc, All, IsTrue, Vec, Global, length, get_or, take, drop, ap, sym, subst, arith}
use Rattle.std.specs.Vec.{vec_items}
use Rattle.std.proofs.lemmas.List.Elements.{All-weaker}
use Rattle.warp_tag.specs.Moment.{is_before}
use Rattle.warp_table.specs.inner.Blocks.{IsBlockOf, flat}
use Rattle.warp_table.proofs.BlockLists.{All-left, All-right, begins_none, block_from, parted, put_flat, with_last}
use Rattle.warp_table.proofs.InOrder.{before_not_behind}
use Rattle.warp_table.proofs.blocks.put_last.Goals as goal

pub returns-clause-items : goal.returns-clause-items
returns-clause-items g c =
    let bs = c.args.blocks.now.items in
    let n = c.len-last.result - 1 in
    let d = c.index_mut.result.now in
    let tag = g.T.Tagged.tag_of c.args.item in
    let P : g.row.T.Denot → Type 0 = λ x. is_before tag (g.T.Tagged.tag_of x) ≡ false in
    let within : n < length bs = omega (arith, c.len-last.ensures, c.requires.some, c.args.blocks.now.ok.0) in
    let flat_all : All P (flat vec_items bs) =
    All-weaker (λ x. IsTrue (is_before (g.T.Tagged.tag_of x) tag)) P (λ x k. before_not_behind (g.T.Tagged.tag_of x) tag k) (flat vec_items bs) c.requires.beyond in
    let own_all : (e : Vec g.row.T.Denot Global) → All P (vec_items (get_or bs n e)) =
    (λ e. All-left P (vec_items (get_or bs n e)) (flat vec_items (drop (suc n) bs))
    (All-right P (flat vec_items (take n bs)) (vec_items (get_or bs n e) ++ flat vec_items (drop (suc n) bs)) (subst (All P) (parted vec_items bs n e within) flat_all))) in
    let block : IsBlockOf vec_items g.T.Tagged.tag_of tag bs n = block_from vec_items g.T.Tagged.tag_of tag bs n c.requires.kept c.requires.in_order within
    (λ e. inr (begins_none g.T.Tagged.tag_of tag (vec_items (get_or bs n e)) (own_all e)))
    (λ e l. absurd (omega (arith, l, c.len-last.ensures, c.requires.some, c.args.blocks.now.ok.0))) in
    put_flat vec_items g.T.Tagged.tag_of c.args.item bs n c.push_reserved.new.self d block
    (c.push_reserved.ensures.items ∙ ap (λ (v : Vec g.row.T.Denot Global). v.items ++ c.args.item ∷ []) c.index_mut.ensures.value
    ∙ sym (with_last g.T.Tagged.tag_of c.args.item (vec_items (get_or bs n d)) (own_all d)))
