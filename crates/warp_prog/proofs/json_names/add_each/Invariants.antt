-- the text so far, and then the inputs that are left, is the text before and all inputs
use Rattle.std.proofs.Common.{◌≡◌, ◌++◌, drop, map, string_bytes}
use Rattle.warp_prog.specs.Canonical.{separated}
use Rattle.warp_prog.specs.NamesLine.{owned_texts}
use Rattle.warp_prog.proofs.json_names.add_each.Given as goal

abbrev pub invariant-loop-i : goal.invariant-loop-i
invariant-loop-i l =
    string_bytes l.text ++ separated l.i (owned_texts l.inputs l.i (map string_bytes (drop l.i l.labels)))
    ≡ string_bytes l.fn.text ++ separated 0 (owned_texts l.inputs 0 (map string_bytes l.labels))
