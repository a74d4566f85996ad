-- What is left of the page gives what all of it gives.
use Rattle.std.proofs.Common.{◌≡◌, ◌++◌, ◌-◌, drop, take}
use Rattle.warp_watch.specs.Lines.{record_lines}
use Rattle.warp_watch.proofs.lines.add_records.Given as goal

abbrev pub invariant-loop-place : goal.invariant-loop-place
invariant-loop-place g l =
    l.text.items ++ record_lines l.place (take (l.end - l.place) (drop (l.place - 1) l.replica.records))
    ≡ l.initial.text.items ++ record_lines l.first (take (l.end - l.first) (drop (l.first - 1) l.replica.records))
