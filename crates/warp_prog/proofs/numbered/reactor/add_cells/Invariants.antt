-- the cells so far, and those of the arrays that are left, are those before and all of the reactor's
use Rattle.std.proofs.Common.{◌≡◌, ◌++◌, drop, map}
use Rattle.warp_prog.specs.Numbered.{cells_in, its_cells}
use Rattle.warp_prog.specs.View.{array_tree, reactor_tree}
use Rattle.warp_prog.proofs.numbered.reactor.add_cells.Given as goal

abbrev pub invariant-loop-array : goal.invariant-loop-array
invariant-loop-array l =
    l.cells.items ++ cells_in l.before (map array_tree (drop l.array-index l.reactor.arrays.items)) ≡ l.fn.cells.items ++ its_cells l.before (reactor_tree l.reactor)
