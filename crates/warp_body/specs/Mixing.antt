-- The generator SplitMix64 (Steele, Lea and Flood 2014), by the number of its output.
use Rattle.std.specs.Prelude.{ℕ, ℤ, ◌+◌, ◌*◌, ◌/◌, ◌%◌, ◌^◌}
use Rattle.std.specs.Int.{w64, cast_signed, cast_unsigned}
use Rattle.std.specs.Int.RustNames.{bit_xor}

-- a word with its high bits folded down by so many places, times a number
abbrev pub folded : ℕ → ℕ → ℕ → ℕ
folded z places factor = bit_xor z (z / 2 ^ places) * factor % 2 ^ 64

-- the state after so many steps from a seed: each step adds the same number
abbrev pub state_after : ℕ → ℕ → ℕ
state_after seed steps = (seed + steps * 0x9e3779b97f4a7c15 % 2 ^ 64) % 2 ^ 64

-- the output that a state gives
abbrev pub output_of : ℕ → ℕ
output_of z =
    let y = folded (folded z 30 0xbf58476d1ce4e5b9) 27 0x94d049bb133111eb in
    bit_xor y (y / 2 ^ 31)

-- The output with this number, 1 for the first, of the generator with this seed. All three are words, told as numbers with
-- a sign.
abbrev pub mix_of : ℤ → ℤ → ℤ
mix_of seed n = cast_signed w64 (output_of (state_after (cast_unsigned w64 seed) (cast_unsigned w64 n)))
