-- What a table keeps of names and of the places of its records, beside the records: for its own functions alone. No contract of
-- a public call cites this.
use Rattle.std.specs.Prelude.{◌≡◌, ◌⊎◌, ℕ, ℤ, ◌+◌, ◌-◌, Bool, false, not, ◌==◌, ◌&&◌, if◌then◌else◌, is_some, Option, Some, None, List, [], ◌∷◌, ◌++◌, length, map, slice_get, All, Contains}
use Rattle.std.specs.Map.{lookup}
use Rattle.std.specs.Option.{option_or, unwrap_or}
use Rattle.std.specs.Ordering.{is_eq}
use Rattle.std.specs.BTreeMap.{is_at}
use Rattle.warp_tag.specs.Moment.{Moment, is_same}
use Rattle.warp_tag.specs.Table.{fresh, greater, is_lesser}
use Rattle.warp_tag.specs.declared.entry.Entry.{Entry}
use Rattle.warp_record.specs.declared.record.Record.{Record}
use Rattle.warp_record.specs.declared.record.Record.TheVariants.{Event, Withdraw, Announce, Joint}
use Rattle.warp_record.specs.Order.{record_cmp}
use Rattle.warp_table.specs.Log.{IsAt}
use Rattle.warp_table.specs.Names.{Tells}
use Rattle.warp_table.specs.Records.{same_record, set_of}
use Rattle.warp_table.specs.LogNames.{names_of}
use Rattle.warp_table.specs.declared.rows.Known.{Known}
use Rattle.warp_table.specs.declared.names.Name.{Name}
use Rattle.warp_table.specs.declared.table.Parted.{Parted}
use Rattle.warp_table.specs.inner.Heard.{Heard, with_heard_event}

-- the record at a place, counted from 1
abbrev pub record_at : List Record → ℕ → Option Record
record_at records place = if place == 0 then None else slice_get records (place - 1)

-- the payload of an event
abbrev pub payload_of : Option Record → Option (ℕ × ℤ)
payload_of (Some (Event origin tag input value)) = Some (input, value)
payload_of (Some (Withdraw origin tag)) = None
payload_of (Some (Announce origin tag events withdrawn)) = None
payload_of (Some (Joint tag events withdrawn)) = None
payload_of None = None

-- the payload of the event at a place
abbrev pub payload_at : List Record → ℕ → Option (ℕ × ℤ)
payload_at records place = payload_of (record_at records place)

-- the one is the other
abbrev pub is_this : Option Record → Record → Bool
is_this None said = false
is_this (Some other) said = same_record other said

-- the record stands at this place
abbrev pub stands : List Record → ℕ → Record → Bool
stands records place said = is_this (record_at records place) said

-- the name is this one
abbrev pub is_named : ℕ → Moment → Name → Bool
is_named origin tag name = origin == name.origin && is_same tag name.tag

-- what is kept of the name among these
abbrev pub kept_of : Name → List (Name × Entry) → Entry
kept_of name names = unwrap_or (lookup (is_named name.origin name.tag) names) (fresh name.origin name.tag)

-- the entries with this value of a key, which comes last where it is new
abbrev pub with_value : {K V : Type 0} → (K → K → Bool) → List (K × V) → K → V → List (K × V)
with_value eq [] key value = (key, value) ∷ []
with_value eq (e ∷ es) key value = if eq key e.0 then (e.0, value) ∷ es else e ∷ with_value eq es key value

-- the names with this kept of one, which comes last where it is new
abbrev pub put : List (Name × Entry) → Name → Entry → List (Name × Entry)
put names name known = with_value (λ one other. is_named one.origin one.tag other) names name known

-- the entry of a name of which this is known
abbrev pub entry_of : List Record → Name → Known → Entry
entry_of records name known = record {
  origin = name.origin;
  tag = name.tag;
  event = payload_at records known.event;
  withdrawn = not (known.withdrawal == 0);
}

-- the entries of names, each with its name
abbrev pub entries_of : List Record → List (Name × Known) → List (Name × Entry)
entries_of records names = map (λ kept. (kept.0, entry_of records kept.0 kept.1)) names

-- of a name of which nothing came
abbrev pub nothing_known : Known
nothing_known = record { event = 0; withdrawal = 0 }

-- with the event at this place as the one that counts
abbrev pub with_event_at : ℕ → Known → Known
with_event_at place known = record known { event = place }

-- with the withdrawal at this place
abbrev pub with_withdrawal_at : ℕ → Known → Known
with_withdrawal_at place known = record known { withdrawal = place }

-- what is known of the name among these
abbrev pub known_of : Name → List (Name × Known) → Known
known_of name names = unwrap_or (lookup (is_named name.origin name.tag) names) nothing_known

-- the names with this known of one, which comes last where it is new
abbrev pub put_known : List (Name × Known) → Name → Known → List (Name × Known)
put_known names name known = with_value (λ one other. is_named one.origin one.tag other) names name known

-- these are kept of the names of a list of records, in the order in which the names came first: what the list's set tells
-- of each
pub record KeepsNames (records : List Record) (names : List (Name × Entry)) : Type 0 where
  pub order : map (λ kept. (kept.0.origin, kept.0.tag)) names ≡ names_of records
  pub each : (origin : ℕ) (tag : Moment) → Tells (set_of records) origin tag (lookup (is_named origin tag) names)

-- where the records stand that no name keeps
abbrev pub OtherPlaces : Type 0
OtherPlaces = Record → Option ℕ

-- where there are none
abbrev pub no_others : OtherPlaces
no_others said = None

-- the place of a record among them
abbrev pub other_place : OtherPlaces → Record → Option ℕ
other_place others said = others said

-- these with one more
abbrev pub put_other : OtherPlaces → Record → ℕ → OtherPlaces
put_other others said place = λ other. if same_record other said then Some place else others other

-- the place that is kept of a record, where this is it
abbrev pub place_if : Record → Record × ℕ → Option ℕ
place_if said kept = if is_eq (record_cmp kept.0 said) then Some kept.1 else None

-- those of a list, and those of a map
abbrev pub places_of : List (Record × ℕ) → List (Record × ℕ) → OtherPlaces
places_of listed entries said = option_or (lookup (is_at (record_cmp said)) listed) (lookup (is_at (record_cmp said)) entries)

-- the place of an event whose name keeps the event at `kept`
abbrev pub event_place : List Record → ℕ → OtherPlaces → Record → Option ℕ
event_place records kept others said = if stands records kept said then Some kept else other_place others said

-- the place of a withdrawal whose name keeps this one
abbrev pub withdrawal_place : ℕ → Option ℕ
withdrawal_place kept = if kept == 0 then None else Some kept

-- the place of a record
abbrev pub place_in : List Record → List (Name × Known) → OtherPlaces → Record → Option ℕ
place_in records names others (Event origin tag input value) =
    event_place records (known_of (record { origin = origin; tag = tag }) names).event others (Event origin tag input value)
place_in records names others (Withdraw origin tag) = withdrawal_place (known_of (record { origin = origin; tag = tag }) names).withdrawal
place_in records names others (Announce origin tag events withdrawn) = other_place others (Announce origin tag events withdrawn)
place_in records names others (Joint tag events withdrawn) = other_place others (Joint tag events withdrawn)

-- no event, or one of the name
abbrev pub HoldsEvent : List Record → Name → ℕ → Type 0
HoldsEvent records name place =
    (place ≡ 0) ⊎ ((payload : ℕ × ℤ) × IsAt records place (Event name.origin name.tag payload.0 payload.1))

-- the places that are kept are those of the records
pub record KeepsPlaces (records : List Record) (names : List (Name × Known)) (others : OtherPlaces) : Type 0 where
  pub events : All (λ kept. HoldsEvent records kept.0 kept.1.event) names
  pub so : (said : Record) (place : ℕ) → place_in records names others said ≡ Some place → IsAt records place said
  pub found : (said : Record) (place : ℕ) → IsAt records place said → place_in records names others said ≡ Some place

-- what is kept of a list of records: of its names, and of the places
pub record Keeps (records : List Record) (names : List (Name × Known)) (others : OtherPlaces) : Type 0 where
  pub tells : KeepsNames records (entries_of records names)
  pub places : KeepsPlaces records names others

-- a payload counts less than another
abbrev pub counts_less : Option (ℕ × ℤ) → ℕ × ℤ → Bool
counts_less None payload = false
counts_less (Some p) payload = is_lesser p payload

-- of the event at the place that is kept and a new one with this payload: the one that does not count, with its place,
-- and the place of the one that does
abbrev pub parted_of : List Record → ℕ → Record → ℕ × ℤ → Parted
parted_of records kept said payload =
    if counts_less (payload_at records kept) payload
    then record { other = unwrap_or (record_at records kept) said; at = kept; event = length records + 1 }
    else record { other = said; at = length records + 1; event = kept }

-- one more event of a name: its name keeps the event at `event` in the place of that at `kept`, and these are the other
-- records' places and what is heard of its origin, before and after
pub record NotesEvent (records : List Record) (name : Name) (payload : ℕ × ℤ) (kept event : ℕ) (others now : OtherPlaces) (own own_now : Heard) : Type 0 where
  pub lacks : (kept ≡ 0) ⊎ (event_place records kept others (Event name.origin name.tag payload.0 payload.1) ≡ None)
  pub holds : HoldsEvent (records ++ Event name.origin name.tag payload.0 payload.1 ∷ []) name event
  pub counts : payload_at (records ++ Event name.origin name.tag payload.0 payload.1 ∷ []) event ≡ Some (greater (payload_at records kept) payload)
  pub places : (other : Record) → event_place (records ++ Event name.origin name.tag payload.0 payload.1 ∷ []) event now other
      ≡ (if same_record (Event name.origin name.tag payload.0 payload.1) other then Some (length records + 1) else event_place records kept others other)
  pub heard : own_now ≡ with_heard_event (is_some (payload_at records kept)) name.tag own

-- a record that the list lacks came in behind it, and this is kept then
pub record IsAdded (records : List Record) (said : Record) (place : ℕ) (names : List (Name × Known)) (others : OtherPlaces) : Type 0 where
  pub new : ¬ Contains records said
  pub last : place ≡ length records + 1
  pub keeps : Keeps (records ++ said ∷ []) names others
