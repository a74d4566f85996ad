-- What a set of records says of names: what it tells of one name, and which events are live. No order of arrival plays a
-- part in it.
use Rattle.std.specs.Prelude.{◌≡◌, ◌≢◌, ℕ, ℤ, Bool, false, ◌&&◌, ◌||◌, nat_lt, IsTrue, ◌↔◌, Option, Some, None, List, Contains, AllPairs}
pub use Rattle.warp_record.specs.Order.{origin_or_first}
pub use Rattle.warp_record.specs.Record.{origin_of}
use Rattle.warp_tag.specs.Moment.{Moment, is_before, is_same}
use Rattle.warp_tag.specs.Table.{Event as LiveEvent, is_lesser}
use Rattle.warp_tag.specs.declared.entry.Entry.{Entry}
use Rattle.warp_record.specs.declared.record.Record.{Record}
use Rattle.warp_record.specs.declared.record.Record.TheVariants.{Event, Withdraw, Announce, Joint}
use Rattle.warp_table.specs.Records.{Records, IsIn}

-- the record is of this name: an event or a withdrawal of it
abbrev pub IsOf : ℕ → Moment → Record → Type 0
IsOf origin tag (Event its_origin its_tag input value) = (its_origin ≡ origin) × (its_tag ≡ tag)
IsOf origin tag (Withdraw its_origin its_tag) = (its_origin ≡ origin) × (its_tag ≡ tag)
IsOf origin tag (Announce its_origin its_tag events withdrawn) = ⊥
IsOf origin tag (Joint its_tag events withdrawn) = ⊥

-- in the set is an event of this name with this payload
abbrev pub HasEvent : Records → ℕ → Moment → ℕ × ℤ → Type 0
HasEvent S origin tag payload = IsIn S (Event origin tag payload.0 payload.1)

-- in the set is a withdrawal of this name
abbrev pub HasWithdrawal : Records → ℕ → Moment → Type 0
HasWithdrawal S origin tag = IsIn S (Withdraw origin tag)

-- the payload of this name counts: an event with it is in the set, and none with a greater one
abbrev pub IsGreatest : Records → ℕ → Moment → ℕ × ℤ → Type 0
IsGreatest S origin tag payload =
    HasEvent S origin tag payload × ((other : ℕ × ℤ) → HasEvent S origin tag other → is_lesser payload other ≡ false)

-- the payload that the set tells of this name: none where no event of the name is in it, else the greatest one
abbrev pub TellsPayload : Records → ℕ → Moment → Option (ℕ × ℤ) → Type 0
TellsPayload S origin tag None = (payload : ℕ × ℤ) → ¬ HasEvent S origin tag payload
TellsPayload S origin tag (Some payload) = IsGreatest S origin tag payload

-- the set tells this of this name, of which there is a record in it: the payload of its event, and whether it is withdrawn
pub record TellsEntry (S : Records) (origin : ℕ) (tag : Moment) (e : Entry) : Type 0 where
  pub some : (said : Record) × IsIn S said × IsOf origin tag said
  pub origin_is : e.origin ≡ origin
  pub tag_is : e.tag ≡ tag
  pub payload : TellsPayload S origin tag e.event
  pub mark : IsTrue e.withdrawn ↔ HasWithdrawal S origin tag

-- what the set tells of this name: nothing where no record of the name is in it
abbrev pub Tells : Records → ℕ → Moment → Option Entry → Type 0
Tells S origin tag None = (said : Record) → IsIn S said → ¬ IsOf origin tag said
Tells S origin tag (Some e) = TellsEntry S origin tag e

-- two payloads of this name are in the set
abbrev pub HasTwoPayloads : Records → ℕ → Moment → Type 0
HasTwoPayloads S origin tag =
    (one : ℕ × ℤ) × (other : ℕ × ℤ) × HasEvent S origin tag one × HasEvent S origin tag other × (one ≢ other)

-- the event is live in the set: its payload is the greatest of its name, and the name is not withdrawn
pub record IsLiveEvent (S : Records) (e : LiveEvent) : Type 0 where
  pub greatest : IsGreatest S e.origin e.tag (e.input, e.value)
  pub unwithdrawn : ¬ HasWithdrawal S e.origin e.tag

-- the event's name comes before that of another: by tag, then by origin
abbrev pub event_before : LiveEvent → LiveEvent → Bool
event_before e d = is_before e.tag d.tag || (is_same e.tag d.tag && nat_lt e.origin d.origin)

-- these are the live events of the set, in the order of their names
pub record IsLive (S : Records) (E : List LiveEvent) : Type 0 where
  pub ordered : AllPairs (λ e d. IsTrue (event_before e d)) E
  pub each : (e : LiveEvent) → Contains E e ↔ IsLiveEvent S e
