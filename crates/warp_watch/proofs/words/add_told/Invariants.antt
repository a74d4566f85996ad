-- What is left gives what all give.
use Rattle.std.proofs.Common.{◌≡◌, ◌++◌, drop, length}
use Rattle.warp_watch.proofs.TextLines.{told_words}
use Rattle.warp_watch.proofs.words.add_told.Given as goal

abbrev pub invariant-loop-variable : goal.invariant-loop-variable
invariant-loop-variable l =
    l.text.items ++ told_words (drop (length l.yielded) l.variables) (drop (length l.yielded) l.values)
    ≡ l.initial.text.items ++ told_words l.variables l.values
