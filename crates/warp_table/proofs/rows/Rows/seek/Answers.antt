-- a tag's block says what all blocks say
use Rattle.std.proofs.Common.{◌≡◌, Vec, Global, List, get_or, ap, subst, sym, ◌∙◌}
use Rattle.std.specs.Vec.{vec_items}
use Rattle.warp_table.specs.declared.rows.NameRow.{NameRow}
use Rattle.warp_table.specs.inner.Blocks.{AreOrdered, IsBlockOf, flat}
use Rattle.warp_table.specs.inner.NamesByOrigin.{AreInOrder, row_of}
use Rattle.warp_table.proofs.RowBlocks.{block_says, ordered_rows, row_block, tag_of}
use Rattle.warp_table.proofs.rows.Rows.seek.Goals as goal

pub block_near-at-requires-clause-in_order : goal.block_near-at-requires-clause-in_order
block_near-at-requires-clause-in_order c =
    subst (λ (bs : List (Vec NameRow Global)). AreOrdered tag_of (flat vec_items bs)) (sym c.deref.ensures.value) (ordered_rows (flat vec_items c.self.inside.blocks.items) c.self.invariant.1)

pub known_at-known-requires : goal.known_at-known-requires
known_at-known-requires c =
    let bs = c.self.inside.blocks.items in
    let at = c.block_near-at.result in
    let block : IsBlockOf vec_items tag_of c.args.tag bs at = subst (λ (cs : List (Vec NameRow Global)). IsBlockOf vec_items tag_of c.args.tag cs at) c.deref.ensures.value c.block_near-at.ensures in
    let held : c.deref-2.result.now ≡ (get_or bs at c.index.result.now).items = c.deref-2.ensures.value ∙ ap (λ (v : Vec NameRow Global). v.items) c.index.ensures in
    subst AreInOrder (sym held) (row_block vec_items bs at c.index.result.now block.within c.self.invariant.1)

pub returns-clause-known : goal.returns-clause-known
returns-clause-known c =
    let bs = c.self.inside.blocks.items in
    let at = c.block_near-at.result in
    let block : IsBlockOf vec_items tag_of c.args.tag bs at = subst (λ (cs : List (Vec NameRow Global)). IsBlockOf vec_items tag_of c.args.tag cs at) c.deref.ensures.value c.block_near-at.ensures in
    let held : c.deref-2.result.now ≡ (get_or bs at c.index.result.now).items = c.deref-2.ensures.value ∙ ap (λ (v : Vec NameRow Global). v.items) c.index.ensures in
    c.known_at-known.ensures ∙ ap (row_of c.args.tag) held ∙ block_says vec_items c.args.tag bs at c.index.result.now block c.self.invariant.1 ∙ ap (row_of c.args.tag) c.self.view_is
