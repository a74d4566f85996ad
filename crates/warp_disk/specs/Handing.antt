-- What is handed to a journal's thread, in the order of the log.
use Rattle.std.specs.Prelude.{◌≡◌, ◌≢◌, ℕ, ◌+◌, ◌<◌, ◌≤◌, ◌==◌, ◌||◌, Bool, true, nat_le, List, [], ◌∷◌, ◌++◌, map, take, length, min, Option, Some, None, is_none, if◌then◌else◌}
use Rattle.rtrb.specs.Ring.{known_free, sent}
use Rattle.rtrb.specs.declared.producer.Producer.{Producer}
use Rattle.warp_tag.specs.Limits.{last_number}
use Rattle.warp_record.specs.declared.record.Record.{Record}
use Rattle.warp_journal.specs.declared.keeping.Keeper.{Keeper}
use Rattle.warp_journal.specs.Keeping.{KeepsAll}
use Rattle.warp_disk.specs.declared.handing.Handed.{Handed}
use Rattle.warp_disk.specs.declared.handing.Handing.{Handing}
use Rattle.warp_disk.specs.declared.handing.Wanted.{Wanted}

-- what went through a ring, oldest first; nothing where there is none
abbrev pub through : {T A P : Type 0} → Option (Producer T A P) → List T
through None = []
through (Some ring) = sent ring

-- how many places of it are known to be free
abbrev pub room_of : {T A P : Type 0} → Option (Producer T A P) → ℕ
room_of None = 0
room_of (Some ring) = known_free ring

-- these records, handed since the log was asked for from its beginning for the so-manieth time
abbrev pub since : ℕ → List Record → List Handed
since beginning records = map (λ said. record { entry = said; beginning = beginning }) records

-- of what was handed, the records since the log was asked for from its beginning for the so-manieth time
abbrev pub handed_since : ℕ → List Handed → List Record
handed_since beginning [] = []
handed_since beginning (handed ∷ more) =
    if handed.beginning == beginning then handed.entry ∷ handed_since beginning more else handed_since beginning more

-- how many records of the log the journal has, or was handed
abbrev pub count_of : Handing → ℕ
count_of h = h.count

-- nothing was handed, and the next one is the same
abbrev pub StaysHanded : Handing → Handing → Type 0
StaysHanded h h' = (through h'.ring ≡ through h.ring) × (h'.count ≡ h.count) × (h'.beginnings ≡ h.beginnings)

-- the log is handed from its beginning, if that was asked for once more
abbrev pub Begins : Handing → Handing → Type 0
Begins h h' =
    (h' ≡ record h { count = h'.count; beginnings = h'.beginnings })
    × (h'.beginnings ≡ h.beginnings → h'.count ≡ h.count) × (h'.beginnings ≢ h.beginnings → h'.count ≡ 0)

-- these records are wanted of a log of this length: the next ones, no more than there is room for
abbrev pub IsWanted : ℕ → Wanted → Handing → Type 0
IsWanted len wanted h = (wanted.behind ≡ h.count) × (h.count < len) × (0 < wanted.most) × (wanted.most ≤ room_of h.ring)

-- The records that were put there are handed, in their order, and counted: all where there is room, else so many as there was.
abbrev pub Hands : Handing → Handing → Type 0
Hands h h' = (count : ℕ) × (count ≤ length h.batch.items)
    × (through h'.ring ≡ through h.ring ++ since h.beginnings (take count h.batch.items))
    × (h'.count ≡ min last_number (h.count + count)) × (h'.beginnings ≡ h.beginnings)
    × (length h.batch.items ≤ room_of h.ring → count ≡ length h.batch.items)

-- whether all of a log of this length was handed, or there is no ring
abbrev pub is_all_handed : ℕ → Handing → Bool
is_all_handed len h = is_none h.ring || nat_le len h.count

-- What comes out of the ring next, of what was handed since then: nothing else is passed over.
abbrev pub TakesNext : ℕ → Option Record → List Handed → List Handed → Type 0
TakesNext beginning None out out' = (more : List Handed) × (out' ≡ out ++ more) × (handed_since beginning more ≡ [])
TakesNext beginning (Some said) out out' = (more : List Handed) × (out' ≡ out ++ more) × (handed_since beginning more ≡ said ∷ [])

-- What came out of the ring, of what was handed since then, was taken by the journal, in its order: so many records.
abbrev pub TakesHanded : {D : Type 0} → (D → Option (List ℕ)) → ℕ → ℕ → Keeper D → Keeper D → List Handed → List Handed → Type 0
TakesHanded written beginning count keeper keeper' out out' =
    (more : List Handed) × (out' ≡ out ++ more) × (count ≡ length (handed_since beginning more))
    × ((first : List ℕ) (records : List Record) → KeepsAll written first keeper records →
    KeepsAll written first keeper' (records ++ handed_since beginning more))
