-- What a log makes of names, record by record: what the set of its records tells, kept as a table.
use Rattle.std.specs.Prelude.{ℕ, Bool, ◌&&◌, ◌==◌, not, List, [], ◌∷◌, fold, filter}
use Rattle.warp_tag.specs.Moment.{Moment, is_same}
use Rattle.warp_tag.specs.Table.{changed, with_event, with_withdrawal}
use Rattle.warp_tag.specs.declared.entry.Entry.{Entry}
use Rattle.warp_record.specs.declared.record.Record.{Record}
use Rattle.warp_record.specs.declared.record.Record.TheVariants.{Event, Withdraw, Announce, Joint}

-- the table of names after one more record: an announcement speaks of no name
abbrev pub with_record : List Entry → Record → List Entry
with_record table (Event origin tag input value) = changed (with_event input value) origin tag table
with_record table (Withdraw origin tag) = changed with_withdrawal origin tag table
with_record table (Announce origin tag events withdrawn) = table
with_record table (Joint tag events withdrawn) = table

-- the names of a list of records: what the records say of each, one after another
abbrev pub table_of : List Record → List Entry
table_of records = fold with_record [] records

-- the name is not this one
abbrev pub is_other : ℕ × Moment → ℕ × Moment → Bool
is_other name other = not (name.0 == other.0 && is_same name.1 other.1)

-- the names of a list of records, each once, in the order in which they came first
abbrev pub names_of : List Record → List (ℕ × Moment)
names_of [] = []
names_of (Event origin tag input value ∷ records) = (origin, tag) ∷ filter (is_other (origin, tag)) (names_of records)
names_of (Withdraw origin tag ∷ records) = (origin, tag) ∷ filter (is_other (origin, tag)) (names_of records)
names_of (Announce origin tag events withdrawn ∷ records) = names_of records
names_of (Joint tag events withdrawn ∷ records) = names_of records
