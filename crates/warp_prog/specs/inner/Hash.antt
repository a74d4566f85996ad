-- A number that follows from a name, and tells most names apart that differ.
use Rattle.std.specs.Prelude.{ℕ, ◌+◌, ◌*◌, ◌%◌, ◌^◌, List, [], ◌∷◌}

-- the number after one more byte
abbrev pub with_byte : ℕ → ℕ → ℕ
with_byte n byte = ((n * 257) % 2 ^ 64 + byte) % 2 ^ 64

-- the number after these bytes
abbrev pub with_bytes : ℕ → List ℕ → ℕ
with_bytes n [] = n
with_bytes n (b ∷ bs) = with_bytes (with_byte n b) bs

-- the number of a text
abbrev pub hash_of : List ℕ → ℕ
hash_of text = with_bytes 0 text
