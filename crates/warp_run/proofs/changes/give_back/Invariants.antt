-- what is left to be given back, from here, gives what all of it gives
use Rattle.std.proofs.Common.{◌≡◌, ◌-◌, ◌≤◌, length, take, drop, vec_len, vec_capacity}
use Rattle.warp_run.specs.Stack.{given_back}
use Rattle.warp_run.proofs.changes.give_back.Given as goal

abbrev pub invariant-values : goal.invariant-values
invariant-values l = record {
  image : given_back (drop l.rest l.cells.items) l.image ≡ given_back (drop l.rest l.fn.cells.items) l.fn.image;
  len : length l.image ≡ length l.fn.image;
  more : l.rest ≤ vec_len l.cells;
  kept : l.cells.items ≡ take (length l.cells.items) l.fn.cells.items;
  capacity : vec_capacity l.cells ≡ vec_capacity l.fn.cells;
}

abbrev pub decreases-values : goal.decreases-values
decreases-values l = vec_len l.cells
