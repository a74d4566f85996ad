-- some program input that is left has no origin exactly if some of all has none
use Rattle.std.proofs.Common.{◌≡◌, drop}
use Rattle.std.specs.List.{list_any}
use Rattle.warp_prog.specs.Limits.{origin_exceeds}
use Rattle.warp_prog.specs.declared.file.InputPart.{InputPart}
use Rattle.warp_prog.proofs.limits.any_input.Given as goal

abbrev pub invariant-loop-i : goal.invariant-loop-i
invariant-loop-i l =
    list_any (λ (i : InputPart). origin_exceeds l.origins i.origin) (drop l.i l.inputs)
    ≡ list_any (λ (i : InputPart). origin_exceeds l.origins i.origin) l.inputs
