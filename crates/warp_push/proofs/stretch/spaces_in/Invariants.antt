-- What is counted, and the spaces of what is left, are all; and no more are counted than bytes were looked at.
use Rattle.std.proofs.Common.{◌≡◌, ◌+◌, ◌≤◌, drop}
use Rattle.std.specs.List.{count_by}
use Rattle.warp_push.specs.Texts.{is_space, spaces_in}
use Rattle.warp_push.proofs.stretch.spaces_in.Given as goal

abbrev pub invariant-loop-byte : goal.invariant-loop-byte
invariant-loop-byte l =
    (l.count + count_by is_space (drop l.byte-index l.text) ≡ spaces_in l.text) × (l.count ≤ l.byte-index)
