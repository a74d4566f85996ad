use Rattle.std.proofs.Common.{◌≡◌, drop}
use Rattle.warp_prog.specs.Word.{are_word_bytes}
use Rattle.warp_prog.proofs.name.are_word_bytes.Given as goal

abbrev pub invariant-loop-byte : goal.invariant-loop-byte
invariant-loop-byte l = are_word_bytes (drop l.byte-index l.text) ≡ are_word_bytes l.text
