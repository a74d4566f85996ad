use Rattle.std.proofs.Common.{◌≡◌, drop}
use Rattle.warp_prog.specs.Word.{are_printed_bytes}
use Rattle.warp_prog.proofs.printed.are_printed_bytes.Given as goal

abbrev pub invariant-loop-byte : goal.invariant-loop-byte
invariant-loop-byte l = are_printed_bytes (drop l.byte-index l.text) ≡ are_printed_bytes l.text
