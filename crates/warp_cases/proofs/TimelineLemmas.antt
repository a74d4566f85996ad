-- What a timeline stands for behind one call more.
use Rattle.std.proofs.Common.{◌≡◌, ℕ, ◌<◌, ◌≤◌, ◌+◌, List, None, length, refl, arith}
use Rattle.warp_tag.specs.Limits.{most_names}
use Rattle.warp_tag.specs.Moment.{Moment}
use Rattle.warp_tag.specs.Table.{with_event, with_withdrawal}
use Rattle.warp_tag.specs.declared.entry.Entry.{Entry}
use Rattle.warp_tag.proofs.Tables.{length-changed}
use Rattle.warp_step.specs.Program.{Program}
use Rattle.warp_record.specs.declared.record.Record.{Record}
use Rattle.warp_record.specs.declared.record.Record.TheVariants.{Event, Withdraw, Announce, Joint}
use Rattle.warp_line.specs.Timeline.{Standing, NowStands}
use Rattle.warp_table.specs.Check.{refusal_of}
use Rattle.warp_table.specs.LogNames.{with_record}
use Rattle.warp_cases.specs.Timelines.{StandsFew}

-- a record names one name more at most
one_more : (table : List Entry) (said : Record) → length (with_record table said) ≤ length table + 1
one_more table (Event origin tag input value) = length-changed (with_event input value) origin tag table
one_more table (Withdraw origin tag) = length-changed with_withdrawal origin tag table
one_more table (Announce origin tag events withdrawn) = omega arith
one_more table (Joint tag events withdrawn) = omega arith

-- what a call keeps is so behind it
pub kept : {T : Type 0} (stands_for : T → Standing → Type 0) (v w : T) (P : Program) (n : ℕ)
    → ((m : Standing) → stands_for v m → stands_for w m)
    → StandsFew stands_for v P n → StandsFew stands_for w P (n + 1)
kept stands_for v w P n keeps h =
    record { table = h.table; done = h.done; stands = keeps _ h.stands; few = omega (arith, h.few) }

-- behind a call that changes nothing
pub still : {T : Type 0} (stands_for : T → Standing → Type 0) (v : T) (P : Program) (n : ℕ)
    → StandsFew stands_for v P n → StandsFew stands_for v P (n + 1)
still stands_for v P n h = record { table = h.table; done = h.done; stands = h.stands; few = omega (arith, h.few) }

-- behind a record that was put
pub entered : {T : Type 0} (stands_for : T → Standing → Type 0) (slack drops : ℕ) (tag : Moment) (v w : T) (P : Program)
    (n : ℕ) (said : Record)
    → ((m : Standing) → stands_for v m → refusal_of m.program said ≡ None
    → NowStands stands_for slack drops tag w m (with_record m.table said))
    → refusal_of P said ≡ None → StandsFew stands_for v P n → StandsFew stands_for w P (n + 1)
entered stands_for slack drops tag v w P n said puts fits h =
    let now = puts (record { program = P; table = h.table; done = h.done }) h.stands fits in record {
      table = with_record h.table said;
      done = now.0;
      stands = now.1;
      few = omega (arith, one_more h.table said, h.few);
    }

-- there is room for a name more
pub room : {T : Type 0} (stands_for : T → Standing → Type 0) (v : T) (P : Program) (n : ℕ)
    → n < 1000 → StandsFew stands_for v P n → (m : Standing) × stands_for v m × (length m.table < most_names)
room stands_for v P n few h = (record { program = P; table = h.table; done = h.done }, h.stands, omega (arith, h.few, few))

-- its program is this one
pub named : {T : Type 0} (stands_for : T → Standing → Type 0) (v : T) (P : Program) (n : ℕ)
    → StandsFew stands_for v P n → (m : Standing) × stands_for v m × (m.program ≡ P)
named stands_for v P n h = (record { program = P; table = h.table; done = h.done }, h.stands, refl)

-- both
pub both : {T : Type 0} (stands_for : T → Standing → Type 0) (v : T) (P : Program) (n : ℕ)
    → n < 1000 → StandsFew stands_for v P n
    → (m : Standing) × stands_for v m × (length m.table < most_names) × (m.program ≡ P)
both stands_for v P n few h =
    (record { program = P; table = h.table; done = h.done }, h.stands, omega (arith, h.few, few), refl)
