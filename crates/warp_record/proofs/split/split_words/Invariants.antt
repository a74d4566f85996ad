-- The words so far and the words of what is left are the words of the text; since the last space there is no other.
use Rattle.std.proofs.Common.{◌≡◌, ◌≤◌, ◌-◌, ◌++◌, map, take, drop}
use Rattle.std.specs.List.{slice_split}
use Rattle.warp_record.specs.Number.{is_space, IsOneWord}
use Rattle.warp_record.proofs.split.split_words.Given as goal

abbrev pub invariant-loop-place : goal.invariant-loop-place
invariant-loop-place l = record {
  start : l.start ≤ l.place;
  word : IsOneWord (take (l.place - l.start) (drop l.start l.bytes));
  all : map (λ word. word.now) l.words.items ++ slice_split is_space (drop l.start l.bytes) ≡ slice_split is_space l.bytes;
}
