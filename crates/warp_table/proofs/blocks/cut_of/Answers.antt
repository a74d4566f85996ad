-- a block is in order
use Rattle.std.proofs.Common.{Vec, Global, subst, sym}
use Rattle.std.specs.Vec.{vec_items}
use Rattle.warp_table.specs.inner.Blocks.{AreOrdered}
use Rattle.warp_table.proofs.BlockLists.{block_ordered}
use Rattle.warp_table.proofs.blocks.cut_of.Goals as goal

pub is_behind_all-requires : goal.is_behind_all-requires
is_behind_all-requires g c =
    subst (AreOrdered g.T.Tagged.tag_of) (sym c.deref.ensures.value)
    (subst (λ (v : Vec g.row.T.Denot Global). AreOrdered g.T.Tagged.tag_of v.items) (sym c.index-blocks-at.is)
    (block_ordered vec_items g.T.Tagged.tag_of c.args.blocks.now c.args.at c.index-blocks-at.result c.requires.within c.requires.in_order))
