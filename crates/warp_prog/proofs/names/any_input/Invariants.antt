-- some program input that is left is unknown exactly if some of all is
use Rattle.std.proofs.Common.{◌≡◌, drop, map, not}
use Rattle.std.specs.List.{list_any}
use Rattle.warp_prog.specs.Names.{is_input}
use Rattle.warp_prog.specs.View.{reactor_tree}
use Rattle.warp_prog.specs.declared.file.InputPart.{InputPart}
use Rattle.warp_prog.proofs.names.any_input.Given as goal

abbrev pub invariant-loop-i : goal.invariant-loop-i
invariant-loop-i l =
    list_any (λ (i : InputPart). not (is_input (map reactor_tree l.reactors) i.port)) (drop l.i l.inputs)
    ≡ list_any (λ (i : InputPart). not (is_input (map reactor_tree l.reactors) i.port)) l.inputs
