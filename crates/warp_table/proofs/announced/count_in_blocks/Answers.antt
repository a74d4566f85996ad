-- in one more block it is counted
use Rattle.std.proofs.Common.{◌<◌, ◌+◌, ◌^◌, List, length, get_or, map, set, take, fold, ap, sym, subst, ◌∙◌, arith}
use Rattle.std.specs.List.{All}
use Rattle.std.proofs.lemmas.List.Edits.{map_over_more}
use Rattle.std.proofs.lemmas.List.Sums.{fold_push}
use Rattle.warp_table.specs.inner.Tally.{AreInOrder, IsJudged, all_of, before_of, beyond, counted, judged_in, with_name}
use Rattle.warp_table.specs.declared.tally.Tally.{Tally}
use Rattle.warp_table.specs.declared.tally.Verdict.{Verdict}
use Rattle.warp_table.proofs.AnnouncedBlocks.{all_still_judged, at_turn, block_all, block_in_order, take_one_more}
use Rattle.warp_table.proofs.announced.count_in_blocks.Goals as goal

pub count_name-requires-clause-in_order : goal.count_name-requires-clause-in_order
count_name-requires-clause-in_order c =
    let l = c.loop-block in
    let there : l.block-index < length c.args.blocks.now = omega arith in
    let is = at_turn (counted c.args.kind c.args.tag) c.args.blocks.now l.blocks l.block-index c.block-item.result there l.invariant.counted c.block-item.is in
    subst AreInOrder c.block-item.is (block_in_order c.args.blocks.now l.block-index c.block-item.result there is c.requires.in_order)

pub count_name-requires-clause-room : goal.count_name-requires-clause-room
count_name-requires-clause-room c =
    let l = c.loop-block in
    let there : l.block-index < length c.args.blocks.now = omega arith in
    let is = at_turn (counted c.args.kind c.args.tag) c.args.blocks.now l.blocks l.block-index c.block-item.result there l.invariant.counted c.block-item.is in
    subst (λ (ts : List Tally). All (λ t. before_of c.args.kind t + 1 < 2 ^ 64) ts) c.block-item.is
    (block_all (λ t. before_of c.args.kind t + 1 < 2 ^ 64) c.args.blocks.now l.block-index c.block-item.result there is c.requires.room)

pub count_name-requires-clause-judged : goal.count_name-requires-clause-judged
count_name-requires-clause-judged c =
    let l = c.loop-block in
    let there : l.block-index < length c.args.blocks.now = omega arith in
    let is = at_turn (counted c.args.kind c.args.tag) c.args.blocks.now l.blocks l.block-index c.block-item.result there l.invariant.counted c.block-item.is in
    subst (λ (ts : List Tally). All (IsJudged l.verdict) ts) c.block-item.is
    (block_all (IsJudged l.verdict) c.args.blocks.now l.block-index c.block-item.result there is l.invariant.known)

pub loop-block-preserved : goal.loop-block-preserved
loop-block-preserved c =
    let l = c.loop-block in
    let f = judged_in c.args.kind c.args.tag in
    let there : l.block-index < length c.args.blocks.now = omega arith in
    let is = at_turn (counted c.args.kind c.args.tag) c.args.blocks.now l.blocks l.block-index c.block-item.result there l.invariant.counted c.block-item.is in
    record {
      counted = ap (set l.blocks l.block-index) (c.count_name.ensures.tallies ∙ ap (counted c.args.kind c.args.tag) (sym c.block-item.is))
          ∙ map_over_more (counted c.args.kind c.args.tag) c.args.blocks.now l.blocks l.block-index c.block-item.result there l.invariant.counted c.block-item.is;
      judged = c.count_name.ensures.judged ∙ ap (f l.verdict) (sym c.block-item.is) ∙ ap (λ (v : Verdict). f v c.block-item.result) l.invariant.judged
          ∙ sym (fold_push f c.args.verdict.now (take l.block-index c.args.blocks.now) c.block-item.result)
          ∙ ap (fold f c.args.verdict.now) (sym (take_one_more c.args.blocks.now l.block-index c.block-item.result there is));
      known = subst (λ (v : Verdict). All (IsJudged v) (all_of c.args.blocks.now)) (sym c.count_name.ensures.judged)
          (all_still_judged l.verdict (map (with_name c.args.kind) (beyond c.args.tag (get_or l.blocks l.block-index c.block-item.result))) (all_of c.args.blocks.now) l.invariant.known);
    }
