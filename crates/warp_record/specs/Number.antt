-- The space between words.
use Rattle.std.specs.Prelude.{◌≡◌, ℕ, Bool, false, ◌==◌, List, All}

-- the byte is a space
abbrev pub is_space : ℕ → Bool
is_space byte = byte == 32

-- none of the bytes is a space
abbrev pub IsOneWord : List ℕ → Type 0
IsOneWord bytes = All (λ byte. is_space byte ≡ false) bytes
