-- more room changes no item
use Rattle.std.proofs.Common.{◌≡◌, get_or, Vec, Global, ap, ◌∙◌}
use Rattle.std.specs.Vec.{vec_items}
use Rattle.warp_table.specs.inner.Blocks.{IsBlockOf}
use Rattle.warp_table.proofs.BlockLists.{same_block, same_flat, same_kept}
use Rattle.warp_table.proofs.blocks.make_room_anywhere.Goals as goal

pub returns-in_err-reserve-clause-items : goal.returns-in_err-reserve-clause-items
returns-in_err-reserve-clause-items g c =
    let bs = c.block_for.new.blocks.items in
    let at = c.in_ok-at.at in
    let block : IsBlockOf vec_items g.T.Tagged.tag_of c.args.tag bs at = c.in_ok-at.ensures.block in
    let same : vec_items c.reserve.new.self ≡ vec_items (get_or bs at c.index_mut.result.now) = c.reserve.ensures.items ∙ ap (λ (v : Vec g.row.T.Denot Global). v.items) c.index_mut.ensures.value in
    same_flat vec_items bs at c.reserve.new.self c.index_mut.result.now block.within same ∙ c.block_for.ensures.items

pub returns-in_err-reserve-clause-kept : goal.returns-in_err-reserve-clause-kept
returns-in_err-reserve-clause-kept g c =
    let bs = c.block_for.new.blocks.items in
    let at = c.in_ok-at.at in
    let block : IsBlockOf vec_items g.T.Tagged.tag_of c.args.tag bs at = c.in_ok-at.ensures.block in
    let same : vec_items c.reserve.new.self ≡ vec_items (get_or bs at c.index_mut.result.now) = c.reserve.ensures.items ∙ ap (λ (v : Vec g.row.T.Denot Global). v.items) c.index_mut.ensures.value in
    same_kept vec_items bs at c.reserve.new.self c.index_mut.result.now block.within same c.block_for.ensures.kept

pub returns-clause-items : goal.returns-clause-items
returns-clause-items g c =
    let bs = c.block_for.new.blocks.items in
    let at = c.in_ok-at.at in
    let block : IsBlockOf vec_items g.T.Tagged.tag_of c.args.tag bs at = c.in_ok-at.ensures.block in
    let same : vec_items c.reserve.new.self ≡ vec_items (get_or bs at c.index_mut.result.now) = c.reserve.ensures.items ∙ ap (λ (v : Vec g.row.T.Denot Global). v.items) c.index_mut.ensures.value in
    same_flat vec_items bs at c.reserve.new.self c.index_mut.result.now block.within same ∙ c.block_for.ensures.items

pub returns-clause-block : goal.returns-clause-block
returns-clause-block g c =
    let bs = c.block_for.new.blocks.items in
    let at = c.in_ok-at.at in
    let block : IsBlockOf vec_items g.T.Tagged.tag_of c.args.tag bs at = c.in_ok-at.ensures.block in
    let same : vec_items c.reserve.new.self ≡ vec_items (get_or bs at c.index_mut.result.now) = c.reserve.ensures.items ∙ ap (λ (v : Vec g.row.T.Denot Global). v.items) c.index_mut.ensures.value in
    same_block vec_items g.T.Tagged.tag_of c.args.tag bs at c.reserve.new.self c.index_mut.result.now same block
