-- Steps that may fail, one after another.
use Rattle.std.specs.Prelude.{Option, option_and_then}

infixl 10 ◌>>=◌
-- the second step on what the first gives, if it gives something
abbrev pub ◌>>=◌ : {A B : Type 0} → Option A → (A → Option B) → Option B
o >>= f = option_and_then f o
