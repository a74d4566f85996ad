-- What an arena's places have to do with a table of names: finding, and changes.
use Rattle.std.specs.Prelude.{◌≡◌, ℕ, Some, None, List}
use Rattle.std.specs.Option.{option_and_then, is_some}
use Rattle.warp_tag.specs.Moment.{Moment}
use Rattle.warp_tag.specs.Table.{fresh, known, changed}
use Rattle.warp_tag.specs.declared.entry.Entry.{Entry}
use Rattle.warp_arena.specs.Places.{Place, entries_of, entry_of, node_of, with_place, with_change}

-- a handle is found exactly where the table knows the name, and names what the table knows
pub record FindsKnown (origin : ℕ) (tag : Moment) (places : List Place) : Type 0 where
  pub found : is_some (node_of origin tag places) ≡ is_some (known origin tag (entries_of places))
  pub names : option_and_then (λ node. entry_of node places) (node_of origin tag places) ≡ known origin tag (entries_of places)

-- a change at the found handle is the table's change of the name
abbrev pub ChangesFound : (Entry → Entry) → ℕ → Moment → List Place → Type 0
ChangesFound change origin tag places =
    (node : ℕ) → node_of origin tag places ≡ Some node
    → entries_of (with_change change node places) ≡ changed change origin tag (entries_of places)

-- where no handle is found: the name taken in at a new handle, and changed there, is the table's change of the name
abbrev pub ChangesNew : (Entry → Entry) → ℕ → Moment → List Place → Type 0
ChangesNew change origin tag places =
    (node : ℕ) → node_of origin tag places ≡ None → entry_of node places ≡ None
    → entries_of (with_change change node (with_place (record { node = node; entry = fresh origin tag }) places))
    ≡ changed change origin tag (entries_of places)
