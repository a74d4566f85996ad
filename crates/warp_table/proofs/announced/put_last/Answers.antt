-- in the last block, or in a further one
use Rattle.std.proofs.Common.{◌≡◌, ◌∷◌, ◌++◌, ◌-◌, ◌<◌, false, inr, suc, [], List, length, set, ap, ◌∙◌, arith}
use Rattle.warp_tag.specs.Moment.{is_before}
use Rattle.warp_table.specs.inner.Tally.{all_of}
use Rattle.warp_table.specs.declared.tally.Tally.{Tally}
use Rattle.warp_table.proofs.AnnouncedBlocks.{block_in_order, front_all, ok_then, put_behind, put_in_block}
use Rattle.warp_table.proofs.announced.put_last.Goals as goal

pub insert-requires : goal.insert-requires
insert-requires c =
    let blocks = c.args.blocks.now.items in
    let there : c.len-count.result - 1 < length blocks = omega (arith, c.len-count.ensures, c.if-count-gt0.true, c.args.blocks.now.ok.0) in
    block_in_order blocks (c.len-count.result - 1) c.index_mut.result.now there c.index_mut.ensures.value c.requires.in_order

pub returns-then-not-is_full-clause-ok : goal.returns-then-not-is_full-clause-ok
returns-then-not-is_full-clause-ok c =
    let blocks = c.args.blocks.now.items in
    let at = c.len-count.result - 1 in
    let there : at < length blocks = omega (arith, c.len-count.ensures, c.if-count-gt0.true, c.args.blocks.now.ok.0) in
    let last : suc at ≡ length blocks = omega (arith, c.len-count.ensures, c.if-count-gt0.true, c.args.blocks.now.ok.0) in
    ok_then c.insert.result (λ e. ap (λ (b : List Tally). all_of (set blocks at b)) e
    ∙ put_in_block c.args.tally blocks at c.index_mut.result.now there c.index_mut.ensures.value (front_all (λ t. is_before c.args.tally.tag t.tag ≡ false) blocks at c.requires.none) (inr last)) c.insert.ensures.ok

pub returns-clause-ok : goal.returns-clause-ok
returns-clause-ok c =
    ap all_of (c.in_ok-push.ensures.items ∙ ap (λ (b : List Tally). c.args.blocks.now.items ++ b ∷ []) c.in_ok-block.ensures) ∙ put_behind c.args.tally c.args.blocks.now.items c.requires.none
