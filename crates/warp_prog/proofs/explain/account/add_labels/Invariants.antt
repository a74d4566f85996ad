-- the text so far, and then the lines of the labels that are left, is the text before and the lines of all
use Rattle.std.proofs.Common.{◌≡◌, ◌++◌, drop, map, string_bytes}
use Rattle.warp_prog.specs.Explain.{number_lines}
use Rattle.warp_prog.proofs.explain.account.add_labels.Given as goal

abbrev pub invariant-loop-i : goal.invariant-loop-i
invariant-loop-i l =
    string_bytes l.text ++ number_lines l.word l.i (map string_bytes (drop l.i l.labels))
    ≡ string_bytes l.fn.text ++ number_lines l.word 0 (map string_bytes l.labels)
