-- What is there, and what is left to add, is what was there and all.
use Rattle.std.proofs.Common.{◌≡◌, ◌++◌, drop}
use Rattle.warp_pages.specs.Ready.{differing_lines}
use Rattle.warp_pages.proofs.ready.add_differing.Given as goal

abbrev pub invariant-loop-peer : goal.invariant-loop-peer
invariant-loop-peer l = l.text.items ++ differing_lines (drop l.peer-index l.peers) ≡ l.initial.text.items ++ differing_lines l.peers
