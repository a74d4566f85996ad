-- What merging another log makes of a log.
use Rattle.std.specs.Prelude.{◌≡◌, ℕ, not, List, ◌++◌, filter, length, take, slice_get, Contains, Some, Result, Ok, Err}
use Rattle.warp_tag.specs.declared.form.Form.{Form}
use Rattle.warp_record.specs.declared.record.Record.{Record}
use Rattle.warp_record.specs.declared.reply.Refusal.{Refusal}
use Rattle.warp_table.specs.Records.{set_of}
use Rattle.warp_replica.specs.Gives.{LacksRoom}

-- the log, followed by the records of the other that it lacks, in the other's order
abbrev pub merged : List Record → List Record → List Record
merged records other = records ++ filter (λ said. not (set_of records said)) other

-- How merging into a log of a form ends, and what the log is then: with all records of the other log, or with those
-- before the first one that found no room.
abbrev pub Merges : Form → List Record → List Record → Result ℕ (ℕ × Refusal) → List Record → Type 0
Merges f records other (Ok count) records' = (count ≡ length other) × (records' ≡ merged records other)
Merges f records other (Err stop) records' =
    ((said : Record) × (slice_get other stop.0 ≡ Some said) × (¬ Contains records' said))
    × (records' ≡ merged records (take stop.0 other)) × LacksRoom f records' stop.1
