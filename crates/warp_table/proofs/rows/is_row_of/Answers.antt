-- where a row of the tag stands, there is its block
use Rattle.std.proofs.Common.{◌≡◌, ◌<◌, Vec, Global, true, length, get_or, ap, sym, subst, ◌∙◌, arith}
use Rattle.std.specs.Vec.{vec_items}
use Rattle.warp_tag.specs.Moment.{Moment, is_same}
use Rattle.warp_tag.proofs.Tags.{same_is}
use Rattle.warp_table.specs.declared.rows.NameRow.{NameRow}
use Rattle.warp_table.specs.inner.Blocks.{IsBlockOf}
use Rattle.warp_table.proofs.RowBlocks.{block_of_row, tag_of}
use Rattle.warp_table.proofs.rows.is_row_of.Goals as goal

pub returns : goal.returns
returns c = λ h.
    let bs = c.args.blocks.now in
    let at = c.args.at in
    let v = c.index-blocks-at.result in
    let row = c.index.result.now in
    let within : at < length bs = omega (arith, c.if-blocks-at.false) in
    let same : is_same row.tag c.args.tag ≡ true = sym c.is_same.ensures ∙ h in
    let inside : c.args.place < length (get_or bs at v).items =
    subst (λ (b : Vec NameRow Global). c.args.place < length b.items) c.index-blocks-at.is (omega (arith, c.if-len-place.false, c.len.ensures, v.ok.0)) in
    let read : row ≡ get_or (get_or bs at v).items c.args.place row = c.index.ensures ∙ ap (λ (b : Vec NameRow Global). get_or b.items c.args.place row) c.index-blocks-at.is in
    subst (λ (t : Moment). IsBlockOf vec_items tag_of t bs at) (same_is row.tag c.args.tag same)
    (block_of_row vec_items bs at v c.args.place row within inside read c.requires)
