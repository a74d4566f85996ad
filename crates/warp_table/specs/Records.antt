-- Sets of records.
use Rattle.std.specs.Prelude.{◌≡◌, ℕ, Bool, false, ◌==◌, ◌&&◌, ◌||◌, IsTrue, List, length}
use Rattle.std.specs.Ordering.{int_eq}
use Rattle.std.specs.List.{list_any}
use Rattle.warp_tag.specs.Moment.{is_same}
use Rattle.warp_record.specs.declared.record.Record.{Record}
use Rattle.warp_record.specs.declared.record.Record.TheVariants.{Event, Withdraw, Announce, Joint}
use Rattle.warp_table.specs.Log.{EachOnce}

-- the records are one
abbrev pub same_record : Record → Record → Bool
same_record (Event o t input value) (Event p s other_input other_value) =
    o == p && is_same t s && input == other_input && int_eq value other_value
same_record (Withdraw o t) (Withdraw p s) = o == p && is_same t s
same_record (Announce o t events withdrawn) (Announce p s other_events other_withdrawn) =
    o == p && is_same t s && events == other_events && withdrawn == other_withdrawn
same_record (Joint t events withdrawn) (Joint s other_events other_withdrawn) =
    is_same t s && events == other_events && withdrawn == other_withdrawn
same_record _ _ = false

-- a set of records: for each record whether it is among them
abbrev pub Records : Type 0
Records = Record → Bool

-- the record is in the set
abbrev pub IsIn : Records → Record → Type 0
IsIn S said = IsTrue (S said)

-- the set of the records of a list, whatever their order and repeats
abbrev pub set_of : List Record → Records
set_of records = λ said. list_any (same_record said) records

-- two sets, joined
abbrev pub union : Records → Records → Records
union S T = λ said. S said || T said

-- so many records are in the set
abbrev pub HasSize : Records → ℕ → Type 0
HasSize S count = (records : List Record) × EachOnce records × (set_of records ≡ S) × (length records ≡ count)
