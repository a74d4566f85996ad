-- an item comes in in its block
use Rattle.std.proofs.Common.{Vec, Global, ap, subst, sym, ◌∙◌}
use Rattle.std.specs.Vec.{vec_items}
use Rattle.warp_table.specs.inner.Blocks.{AreOrdered, with_item}
use Rattle.warp_table.proofs.BlockLists.{block_ordered, put_flat, put_kept}
use Rattle.warp_table.proofs.blocks.put.Goals as goal

pub put_in-requires-clause-in_order : goal.put_in-requires-clause-in_order
put_in-requires-clause-in_order g c =
    subst (λ (v : Vec g.row.T.Denot Global). AreOrdered g.T.Tagged.tag_of v.items) (sym c.index_mut.ensures.value)
    (block_ordered vec_items g.T.Tagged.tag_of c.args.blocks.now.items c.args.at c.index_mut.result.now c.requires.block.within c.requires.in_order)

pub returns-clause-items : goal.returns-clause-items
returns-clause-items g c =
    put_flat vec_items g.T.Tagged.tag_of c.args.item c.args.blocks.now.items c.args.at c.put_in.new.block c.index_mut.result.now c.requires.block
    (c.put_in.ensures ∙ ap (λ (v : Vec g.row.T.Denot Global). with_item g.T.Tagged.tag_of c.args.item v.items) c.index_mut.ensures.value)

pub returns-clause-kept : goal.returns-clause-kept
returns-clause-kept g c =
    put_kept vec_items g.T.Tagged.tag_of c.args.item c.args.blocks.now.items c.args.at c.put_in.new.block c.index_mut.result.now c.requires.kept
    (c.put_in.ensures ∙ ap (λ (v : Vec g.row.T.Denot Global). with_item g.T.Tagged.tag_of c.args.item v.items) c.index_mut.ensures.value)
