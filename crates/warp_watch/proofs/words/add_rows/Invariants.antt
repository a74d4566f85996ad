-- What is left of the page gives what all of it gives.
use Rattle.std.proofs.Common.{◌≡◌, ◌++◌, ◌-◌, drop, take}
use Rattle.warp_watch.specs.Lines.{output_lines}
use Rattle.warp_watch.proofs.words.add_rows.Given as goal

abbrev pub invariant-loop-number : goal.invariant-loop-number
invariant-loop-number l =
    l.text.items ++ output_lines l.number (take (l.end - l.number) (drop l.number l.rows))
    ≡ l.initial.text.items ++ output_lines l.first (take (l.end - l.first) (drop l.first l.rows))
