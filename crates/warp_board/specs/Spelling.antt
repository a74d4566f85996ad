-- How a row is spelled in two words.
use Rattle.std.specs.Prelude.{◌≡◌, ℕ, ◌+◌, ◌*◌, ◌<◌, FitsSigned}
use Rattle.std.specs.Int.{w64, cast_unsigned}
use Rattle.warp_tag.specs.Limits.{most_outputs, widest}
use Rattle.warp_tag.specs.Moment.{IsInRange}
use Rattle.warp_tag.specs.declared.out.Out.{Out}

-- the time, the microstep and the port, side by side
abbrev pub first_word : Out → ℕ
first_word row = row.tag.time * 65536 + row.tag.microstep * 256 + row.port

-- the value's 64 bits
abbrev pub second_word : Out → ℕ
second_word row = cast_unsigned w64 row.value

-- the two words spell the row, whose tag, port and value are in range
pub record Spells (row : Out) (first second : ℕ) : Type 0 where
  pub tag : IsInRange row.tag
  pub port : row.port < most_outputs widest
  pub value : FitsSigned w64 row.value
  pub first_is : first ≡ first_word row
  pub second_is : second ≡ second_word row
