-- strict order is order
use Rattle.std.specs.Vec.{vec_items}
use Rattle.warp_table.specs.inner.Blocks.{flat}
use Rattle.warp_table.proofs.RowBlocks.{ordered_rows}
use Rattle.warp_table.proofs.rows.block_with.Goals as goal

pub block_near-requires-clause-in_order : goal.block_near-requires-clause-in_order
block_near-requires-clause-in_order c = ordered_rows (flat vec_items c.args.blocks.now) c.requires.in_order
