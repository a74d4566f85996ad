-- it does not begin beyond the tag, and the next one does
use Rattle.std.proofs.Common.{◌≡◌, ◌<◌, ◌+◌, ◌∙◌, Vec, Global, length, get_or, suc, ap, sym, false, true, inr, arith}
use Rattle.std.specs.Vec.{vec_items}
use Rattle.std.proofs.lemmas.List.{get_or_read}
use Rattle.warp_table.specs.inner.Blocks.{begins_beyond}
use Rattle.warp_table.proofs.BlockLists.{block_from}
use Rattle.warp_table.proofs.blocks.is_block_of.Goals as goal

pub returns-then-next-blocks : goal.returns-then-next-blocks
returns-then-next-blocks g c = λ h.
    let bs = c.args.blocks.now in
    let at = c.args.at in
    let within : at < length bs = omega (arith, c.if-blocks-at.false) in
    let here : begins_beyond g.T.Tagged.tag_of c.args.tag c.index-blocks-at.result.items ≡ false =
    ap (begins_beyond g.T.Tagged.tag_of c.args.tag) (sym c.deref.ensures.value) ∙ sym c.begins_beyond.ensures ∙ c.if-begins_beyond.false in
    block_from vec_items g.T.Tagged.tag_of c.args.tag bs at c.requires.kept c.requires.in_order within
    (λ d. inr (ap (λ (v : Vec g.row.T.Denot Global). begins_beyond g.T.Tagged.tag_of c.args.tag v.items) (sym (get_or_read bs at c.index-blocks-at.result within c.index-blocks-at.is d)) ∙ here))
    (λ d l. absurd (omega (arith, l, c.if-next-blocks.true)))

pub returns : goal.returns
returns g c = λ h.
    let bs = c.args.blocks.now in
    let at = c.args.at in
    let within : at < length bs = omega (arith, c.if-blocks-at.false) in
    let here : begins_beyond g.T.Tagged.tag_of c.args.tag c.index-blocks-at.result.items ≡ false =
    ap (begins_beyond g.T.Tagged.tag_of c.args.tag) (sym c.deref.ensures.value) ∙ sym c.begins_beyond.ensures ∙ c.if-begins_beyond.false in
    let next : begins_beyond g.T.Tagged.tag_of c.args.tag c.index-blocks-next.result.items ≡ true =
    ap (begins_beyond g.T.Tagged.tag_of c.args.tag) (sym c.deref-2.ensures.value) ∙ sym c.begins_beyond-2.ensures ∙ h in
    let next_is : at + 1 ≡ suc at = omega arith in
    block_from vec_items g.T.Tagged.tag_of c.args.tag bs at c.requires.kept c.requires.in_order within
    (λ d. inr (ap (λ (v : Vec g.row.T.Denot Global). begins_beyond g.T.Tagged.tag_of c.args.tag v.items) (sym (get_or_read bs at c.index-blocks-at.result within c.index-blocks-at.is d)) ∙ here))
    (λ d l. ap (λ (v : Vec g.row.T.Denot Global). begins_beyond g.T.Tagged.tag_of c.args.tag v.items) (sym (get_or_read bs (suc at) c.index-blocks-next.result l (c.index-blocks-next.is ∙ ap (λ n. get_or bs n c.index-blocks-next.result) next_is) d)) ∙ next)
