-- what is left gives what all gives
use Rattle.std.proofs.Common.{◌≡◌, drop}
use Rattle.warp_prog.specs.inner.Hash.{with_bytes, hash_of}
use Rattle.warp_prog.proofs.name.hash_of.Given as goal

abbrev pub invariant-loop-byte : goal.invariant-loop-byte
invariant-loop-byte l = with_bytes l.hash (drop l.byte-index l.text) ≡ hash_of l.text
