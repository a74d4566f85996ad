-- what is in front of a block that has none beyond the tag has none
use Rattle.std.proofs.Common.{◌≡◌, ◌+◌, ◌-◌, ◌/◌, ◌<◌, ℕ, length, suc, false, take, subst, sym, ◌∙◌, arith}
use Rattle.std.specs.List.{All}
use Rattle.warp_tag.specs.Moment.{is_before}
use Rattle.warp_table.specs.inner.Tally.{all_of}
use Rattle.warp_table.proofs.AnnouncedBlocks.{block_in_order, front_none}
use Rattle.warp_table.proofs.announced.first_by_halves.Goals as goal

pub has_beyond-requires : goal.has_beyond-requires
has_beyond-requires c =
    let middle = c.loop-low.low + (c.loop-low.high - c.loop-low.low) / 2 in
    let within : middle < length c.args.blocks.now = omega (arith, c.loop-low-test.true, c.loop-low.invariant.bound) in
    block_in_order c.args.blocks.now middle c.index-blocks-middle.result within c.index-blocks-middle.is c.requires.in_order

pub loop-low-preserved : goal.loop-low-preserved
loop-low-preserved c =
    let middle = c.loop-low.low + (c.loop-low.high - c.loop-low.low) / 2 in
    let within : middle < length c.args.blocks.now = omega (arith, c.loop-low-test.true, c.loop-low.invariant.bound) in
    let next : suc middle ≡ middle + 1 = omega arith in
    record {
      within = omega (arith, c.loop-low-test.true);
      bound = c.loop-low.invariant.bound;
      none = subst (λ (n : ℕ). All (λ t. is_before c.args.tag t.tag ≡ false) (all_of (take n c.args.blocks.now))) next
          (front_none c.args.tag c.args.blocks.now middle c.index-blocks-middle.result c.requires.some c.requires.in_order within c.index-blocks-middle.is
          (sym c.has_beyond.ensures ∙ c.if-has_beyond.false));
      some = c.loop-low.invariant.some;
    }
