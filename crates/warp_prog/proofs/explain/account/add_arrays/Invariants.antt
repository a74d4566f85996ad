-- the text so far, and then the lines of the arrays that are left, is the text before and the lines of all
use Rattle.std.proofs.Common.{◌≡◌, ◌++◌, drop, map, string_bytes}
use Rattle.warp_step.specs.Labelled.{array_name}
use Rattle.warp_prog.specs.Explain.{array_lines}
use Rattle.warp_prog.proofs.explain.account.add_arrays.Given as goal

abbrev pub invariant-loop-array : goal.invariant-loop-array
invariant-loop-array l =
    string_bytes l.text ++ array_lines (map array_name (drop l.array-index l.arrays))
    ≡ string_bytes l.fn.text ++ array_lines (map array_name l.arrays)
