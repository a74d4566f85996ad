-- Whether a replica is settled that answered a line.
use Rattle.std.specs.Prelude.{◌≡◌, ◌↔◌, Bool, true, false, IsTrue}
use Rattle.warp_record.specs.declared.line.Line.{Line}
use Rattle.warp_record.specs.declared.line.Line.TheVariants.{Put, Ask, Collect, Look}
use Rattle.warp_record.specs.declared.reply.Refusal.TheVariants.{NoMemory}
use Rattle.warp_record.specs.declared.reply.Reply.{Reply}
use Rattle.warp_record.specs.declared.reply.Reply.TheVariants.{Taken, Refused}

-- After settling all rows are done, or it lacked memory; it does not where they were done before; and the reply is
-- refusal 8 exactly where it did.
abbrev pub SettlesOrRefuses : Reply → Bool → Bool → Type 0 → Type 0
SettlesOrRefuses reply before after lacked =
    (IsTrue before → IsTrue after) × ((reply ≡ Refused NoMemory) ↔ (after ≡ false)) × (after ≡ false → lacked)

-- Whether a replica that answered a line is settled after it, by the line, the reply, whether it was before, and what
-- holds where settling lacked memory. All is settled before a query and before collecting, and where nothing comes in
-- it stays as it was. Of a new record this says nothing: what it has executed may wait for the lines behind it.
abbrev pub LeavesSettled : Line → Reply → Bool → Bool → Type 0 → Type 0
LeavesSettled (Put said) (Taken place) before after lacked = Unit {0}
LeavesSettled (Put said) other before after lacked = after ≡ before
LeavesSettled (Ask asked) reply before after lacked = SettlesOrRefuses reply before after lacked
LeavesSettled Collect reply before after lacked = SettlesOrRefuses reply before after lacked
LeavesSettled (Look look) reply before after lacked = after ≡ before

-- Nothing waits behind a new record: it is settled, or settling lacked memory.
abbrev pub SettlesNew : Line → Reply → Bool → Type 0 → Type 0
SettlesNew (Put said) (Taken place) after lacked = after ≡ false → lacked
SettlesNew (Put said) other after lacked = Unit {0}
SettlesNew (Ask asked) reply after lacked = Unit {0}
SettlesNew Collect reply after lacked = Unit {0}
SettlesNew (Look look) reply after lacked = Unit {0}

-- Whether there was memory to settle for a line: where a new record, a query or collecting leaves it settled. Where
-- nothing has to be settled there was.
abbrev pub HadMemory : Line → Reply → Bool → Bool → Type 0
HadMemory (Put said) (Taken place) after had = had ≡ after
HadMemory (Put said) other after had = had ≡ true
HadMemory (Ask asked) reply after had = had ≡ after
HadMemory Collect reply after had = had ≡ after
HadMemory (Look look) reply after had = had ≡ true
