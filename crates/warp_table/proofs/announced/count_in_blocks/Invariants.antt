use Rattle.std.proofs.Common.{◌≡◌, ◌++◌, map, take, drop, fold}
use Rattle.std.specs.List.{All}
use Rattle.warp_table.specs.inner.Tally.{IsJudged, all_of, counted, judged_in}
use Rattle.warp_table.proofs.announced.count_in_blocks.Given as goal

-- in the front it is counted
abbrev pub invariant-loop-block : goal.invariant-loop-block
invariant-loop-block l = record {
  counted : l.blocks ≡ map (counted l.kind l.tag) (take l.block-index l.initial.blocks) ++ drop l.block-index l.initial.blocks;
  judged : l.verdict ≡ fold (judged_in l.kind l.tag) l.initial.verdict (take l.block-index l.initial.blocks);
  known : All (IsJudged l.verdict) (all_of l.initial.blocks);
}
