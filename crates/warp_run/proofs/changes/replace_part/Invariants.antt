-- up to here the image has the values, and what is kept gives back what it had
use Rattle.std.proofs.Common.{◌≡◌, ◌+◌, ◌-◌, ◌≤◌, ◌++◌, List, length, take, vec_len, vec_capacity}
use Rattle.warp_run.specs.Stack.{given_back}
use Rattle.warp_run.specs.declared.changes.Cell.{Cell}
use Rattle.warp_run.proofs.changes.replace_part.Given as goal

abbrev pub invariant-cells : goal.invariant-cells
invariant-cells l = record {
  len : length l.image ≡ length l.fn.image;
  front : take l.at l.image ≡ take l.at l.values;
  kept : (more : List Cell) × (l.cells.items ≡ l.fn.cells.items ++ more) × (given_back more l.image ≡ l.fn.image);
  few : vec_len l.cells + (l.to - l.at) ≤ vec_len l.fn.cells + (l.to - l.from);
  least : l.from ≤ l.at;
  most : l.at ≤ l.to;
  capacity : vec_capacity l.cells ≡ vec_capacity l.fn.cells;
}
