-- up to here the image has the values, and what is kept gives back what it had
use Rattle.std.proofs.Common.{◌≡◌, ◌+◌, ◌-◌, ◌≤◌, ◌++◌, List, length, take, vec_len, vec_capacity}
use Rattle.warp_run.specs.Stack.{given_back}
use Rattle.warp_run.specs.declared.changes.Cell.{Cell}
use Rattle.warp_run.proofs.changes.replace.Given as goal

abbrev pub invariant-parts : goal.invariant-parts
invariant-parts l = record {
  len : length l.image ≡ length l.fn.image;
  front : take l.at l.image ≡ take l.at l.values;
  kept : (more : List Cell) × (l.cells.items ≡ l.fn.cells.items ++ more) × (given_back more l.image ≡ l.fn.image);
  room : vec_len l.cells + (length l.values - l.at) ≤ vec_capacity l.cells;
  most : l.at ≤ length l.values;
  capacity : vec_capacity l.cells ≡ vec_capacity l.fn.cells;
}

abbrev pub decreases-parts : goal.decreases-parts
decreases-parts l = length l.values - l.at
