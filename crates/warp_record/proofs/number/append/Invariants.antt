use Rattle.std.proofs.Common.{◌≡◌, ◌+◌, ◌++◌, drop, vec_len, vec_capacity}
use Rattle.warp_record.proofs.number.append.Given as goal

-- what is there, and what is left, is all
abbrev pub invariant-loop-byte : goal.invariant-loop-byte
invariant-loop-byte l =
    (l.out.items ++ drop l.byte-index l.text ≡ l.initial.out.items ++ l.text)
    × (vec_len l.out ≡ vec_len l.initial.out + l.byte-index)
    × (vec_capacity l.out ≡ vec_capacity l.initial.out)
