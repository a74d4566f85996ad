-- When something is due though nothing comes, in microseconds.
use Rattle.std.specs.Prelude.{ℕ, min, List, [], ◌∷◌}
use Rattle.warp_service.specs.Contact.{never}

-- so long it is between two looks at what is late
abbrev pub second : ℕ
second = 1000000

-- the first of these moments, or never
abbrev pub earliest : List ℕ → ℕ
earliest [] = never
earliest (moment ∷ moments) = min moment (earliest moments)
