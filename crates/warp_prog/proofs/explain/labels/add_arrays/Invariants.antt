-- the labels so far, and then those of the arrays that are left, are those before and those of all, and so are the cells
use Rattle.std.proofs.Common.{◌≡◌, ◌+◌, ◌++◌, drop, map}
use Rattle.warp_step.specs.Labelled.{array_name}
use Rattle.warp_prog.specs.Explain.{arrays_in}
use Rattle.warp_prog.specs.Limits.{cells_of}
use Rattle.warp_prog.specs.View.{array_tree, reactor_tree}
use Rattle.warp_prog.proofs.explain.labels.add_arrays.Given as goal

abbrev pub invariant-loop-array : goal.invariant-loop-array
invariant-loop-array l =
    let r = reactor_tree l.reactor in
    let left = map array_tree (drop l.array-index l.reactor.arrays.items) in
    record {
      next : l.next + cells_of left ≡ l.first + cells_of r.arrays;
      labels : map array_name l.labels.items ++ arrays_in l.next r left ≡ map array_name l.fn.labels.items ++ arrays_in l.first r r.arrays;
    }
