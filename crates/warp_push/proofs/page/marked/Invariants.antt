-- What is so far, and what is left with its marks, is all.
use Rattle.std.proofs.Common.{◌≡◌, ◌++◌, drop}
use Rattle.warp_push.specs.Texts.{marked, marked_from}
use Rattle.warp_push.proofs.page.marked.Given as goal

abbrev pub invariant-loop-byte : goal.invariant-loop-byte
invariant-loop-byte l = l.lines.items ++ marked_from l.mark l.starts (drop l.byte-index l.text) ≡ marked l.mark l.text
