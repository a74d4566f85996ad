-- the outputs so far are numbered
use Rattle.std.proofs.Common.{◌≡◌, map, take}
use Rattle.warp_prog.specs.Numbered.{source_number}
use Rattle.warp_prog.specs.View.{reactor_tree}
use Rattle.warp_prog.proofs.numbered.numbered_outputs.Given as goal

abbrev pub invariant-loop-output : goal.invariant-loop-output
invariant-loop-output l = l.numbered.items ≡ map (source_number (map reactor_tree l.reactors)) (take l.output-index l.outputs)
