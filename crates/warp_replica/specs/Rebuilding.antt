-- A table of names that goes into a run once more, name by name. This follows the loop, for its proof's sake: no public
-- contract cites it.
use Rattle.std.specs.Prelude.{◌≡◌, ℕ, ℤ, IsTrue, List, Option, Some, None, if◌then◌else◌}
use Rattle.warp_tag.specs.declared.entry.Entry.{Entry}
use Rattle.warp_step.specs.Program.{Program}
use Rattle.warp_step.specs.Run.{Row}
use Rattle.warp_record.specs.declared.record.Record.{Record}
use Rattle.warp_record.specs.declared.record.Record.TheVariants.{Event, Withdraw}
use Rattle.warp_line.specs.Timeline.{Standing}
use Rattle.warp_table.specs.Check.{refusal_of}
use Rattle.warp_table.specs.LogNames.{with_record}

-- the event of a name that has this payload
abbrev pub event_of : Entry → ℕ × ℤ → Record
event_of e payload = Event e.origin e.tag payload.0 payload.1

-- the withdrawal of a name
abbrev pub withdrawal_of : Entry → Record
withdrawal_of e = Withdraw e.origin e.tag

-- the table with this payload of a name, where it has one
abbrev pub with_payload : Entry → List Entry → Option (ℕ × ℤ) → List Entry
with_payload e table None = table
with_payload e table (Some payload) = with_record table (event_of e payload)

-- the table with a name's mark, where it is withdrawn
abbrev pub with_mark : Entry → List Entry → List Entry
with_mark e table = if e.withdrawn then with_record table (withdrawal_of e) else table

-- the table with all that is known of a name
abbrev pub with_name : List Entry → Entry → List Entry
with_name table e = with_mark e (with_payload e table e.event)

-- the program has no reason against what is known of a name
abbrev pub IsAllowedName : Program → Entry → Type 0
IsAllowedName P e =
    ((payload : ℕ × ℤ) → e.event ≡ Some payload → refusal_of P (event_of e payload) ≡ None)
    × (IsTrue e.withdrawn → refusal_of P (withdrawal_of e) ≡ None)

-- the value stands for the program and the table, with some rows done
abbrev pub StandsWith : {T : Type 0} → (T → Standing → Type 0) → T → Program → List Entry → Type 0
StandsWith stands_for value P table =
    (done : List Row) × stands_for value (record { program = P; table = table; done = done })
