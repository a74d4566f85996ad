-- So far all bytes are digits and none is a space, and the number is what they write.
use Rattle.std.proofs.Common.{◌≡◌, ◌≤◌, ◌-◌, take}
use Rattle.std.specs.List.{position_or_len}
use Rattle.std.specs.Str.Parse.{AllDigits, digits_value}
use Rattle.warp_record.specs.Number.{is_space}
use Rattle.warp_record.proofs.cut.digits_up_to.Given as goal

abbrev pub invariant-loop-place : goal.invariant-loop-place
invariant-loop-place l = record {
  within : l.place ≤ position_or_len is_space l.bytes;
  all_digits : AllDigits 10 (take l.place l.bytes);
  value : l.number ≡ digits_value 10 (take l.place l.bytes);
  few : l.place ≤ l.most;
}

abbrev pub decreases-loop-place : goal.decreases-loop-place
decreases-loop-place l = l.most - l.place
