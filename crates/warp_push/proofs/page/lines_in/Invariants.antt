-- What is counted, and the lines of what is left, are all.
use Rattle.std.proofs.Common.{◌≡◌, drop}
use Rattle.std.specs.List.{count_by}
use Rattle.warp_push.specs.Marks.{sum_64}
use Rattle.warp_push.specs.Texts.{is_feed, lines_in}
use Rattle.warp_push.proofs.page.lines_in.Given as goal

abbrev pub invariant-loop-byte : goal.invariant-loop-byte
invariant-loop-byte l = sum_64 l.count (count_by is_feed (drop l.byte-index l.text)) ≡ lines_in l.text
