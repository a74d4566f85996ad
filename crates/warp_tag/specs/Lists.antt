-- Words on lists that several crates use.
use Rattle.std.specs.Prelude.{◌≡◌, List, ◌++◌}

-- the list begins with this front
abbrev pub StartsWith : {X : Type 0} → List X → List X → Type 0
StartsWith {X} whole front = (rest : List X) × (whole ≡ front ++ rest)
