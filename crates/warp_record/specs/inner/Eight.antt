-- Eight bytes or digits, as one number holds them.
use Rattle.std.specs.Prelude.{◌≡◌, ℕ, ◌+◌, ◌%◌, List, length, map, take}
use Rattle.std.specs.Int.Digits.{AllBelowBase}

-- the byte less that of the digit 0, around the end of a byte
abbrev pub less_zero : ℕ → ℕ
less_zero byte = (byte + 208) % 256

-- each of the first eight bytes less that of the digit 0
abbrev pub lanes_of : List ℕ → List ℕ
lanes_of bytes = map less_zero (take 8 bytes)

-- eight digits
abbrev pub AreEight : List ℕ → Type 0
AreEight ds = (length ds ≡ 8) × AllBelowBase 10 ds
