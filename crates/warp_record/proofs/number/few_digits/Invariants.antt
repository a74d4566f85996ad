-- So far all bytes are digits, and the number is what they write.
use Rattle.std.proofs.Common.{◌≡◌, take}
use Rattle.std.specs.Str.Parse.{AllDigits, digits_value}
use Rattle.warp_record.proofs.number.few_digits.Given as goal

abbrev pub invariant-loop-byte : goal.invariant-loop-byte
invariant-loop-byte l = record {
  all_digits : AllDigits 10 (take l.byte-index l.word);
  value : l.number ≡ digits_value 10 (take l.byte-index l.word);
}
