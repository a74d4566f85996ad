-- where the last block has none beyond the tag, none has one
use Rattle.std.proofs.Common.{◌≡◌, ◌-◌, ◌<◌, ℕ, length, suc, false, take, subst, sym, ◌∙◌, arith}
use Rattle.std.specs.List.{All}
use Rattle.warp_tag.specs.Moment.{is_before}
use Rattle.warp_table.specs.inner.Tally.{all_of}
use Rattle.warp_table.proofs.AnnouncedBlocks.{block_in_order, front_none}
use Rattle.warp_table.proofs.announced.first_beyond.Goals as goal

pub has_beyond-requires : goal.has_beyond-requires
has_beyond-requires c =
    block_in_order c.args.blocks.now (length c.args.blocks.now - 1) c.index-blocks-count.result (omega (arith, c.if-count-eq0.false)) c.index-blocks-count.is c.requires.in_order

pub returns-clause-none : goal.returns-clause-none
returns-clause-none c =
    let within : length c.args.blocks.now - 1 < length c.args.blocks.now = omega (arith, c.if-count-eq0.false) in
    let same : suc (length c.args.blocks.now - 1) ≡ length c.args.blocks.now = omega (arith, within) in
    subst (λ (n : ℕ). All (λ t. is_before c.args.tag t.tag ≡ false) (all_of (take n c.args.blocks.now))) same
    (front_none c.args.tag c.args.blocks.now (length c.args.blocks.now - 1) c.index-blocks-count.result c.requires.some c.requires.in_order within c.index-blocks-count.is
    (sym c.has_beyond.ensures ∙ c.if-has_beyond.false))
