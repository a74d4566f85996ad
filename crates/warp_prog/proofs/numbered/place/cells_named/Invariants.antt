-- the cells of the name among the arrays that are left are those among all, and there is room for the numbers of all
use Rattle.std.proofs.Common.{◌≡◌, ◌+◌, ◌≤◌, drop, map}
use Rattle.warp_tag.specs.Limits.{most_variables, widest}
use Rattle.warp_prog.specs.Limits.{cells_of}
use Rattle.warp_prog.specs.Numbered.{cell_count, cell_count_in, first_cell, first_cell_from}
use Rattle.warp_prog.specs.View.{array_tree, reactor_tree}
use Rattle.warp_prog.proofs.numbered.place.cells_named.Given as goal

abbrev pub invariant-loop-array : goal.invariant-loop-array
invariant-loop-array l =
    let left = map array_tree (drop l.array-index l.reactor.arrays.items) in
    record {
      first : first_cell_from l.first left l.name ≡ first_cell l.before (reactor_tree l.reactor) l.name;
      count : cell_count_in left l.name ≡ cell_count (reactor_tree l.reactor) l.name;
      room : l.first + cells_of left ≤ most_variables widest;
    }
