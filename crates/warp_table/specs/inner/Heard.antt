-- What is kept of one origin, for proofs alone: the tags of its names, and its announcements.
use Rattle.std.specs.Prelude.{◌≡◌, ◌⊎◌, ℕ, ℤ, ◌<◌, ◌≤◌, ◌↔◌, Bool, false, IsTrue, IfSome, Option, Some, None, List, [], ◌∷◌, fold, length, filter, get_or, Contains, AllPairs, if◌then◌else◌}
use Rattle.warp_tag.specs.Limits.{most_origins, widest}
use Rattle.warp_tag.specs.Moment.{Moment, is_before}
use Rattle.warp_record.specs.declared.record.Record.{Record}
use Rattle.warp_record.specs.declared.record.Record.TheVariants.{Announce}
use Rattle.warp_table.specs.Records.{Records, IsIn, set_of}
use Rattle.warp_table.specs.Names.{HasEvent, HasWithdrawal, HasTwoPayloads}
use Rattle.warp_table.specs.Announced.{beginning}

-- an announcement: up to this tag, with these counts
pub record Announced : Type 0 where
  pub tag : Moment
  pub events : ℕ
  pub withdrawn : ℕ

-- of one origin: the tags of its names that have an event, those that have a withdrawal, the least of those that have two
-- payloads, and its announcements
pub record Heard : Type 0 where
  pub events : List Moment
  pub withdrawn : List Moment
  pub doubled : Option Moment
  pub announced : List Announced

-- of an origin that said nothing
abbrev pub nothing_heard : Heard
nothing_heard = record { events = []; withdrawn = []; doubled = None; announced = [] }

-- tags in order, each once
abbrev pub AreAscending : List Moment → Type 0
AreAscending tags = AllPairs (λ t u. IsTrue (is_before t u)) tags

-- tags in order, with one more in its place
abbrev pub with_tag : Moment → List Moment → List Moment
with_tag tag [] = tag ∷ []
with_tag tag (t ∷ tags) = if is_before tag t then tag ∷ t ∷ tags else t ∷ with_tag tag tags

-- tags in order, with more of them, one after another
abbrev pub with_tags : List Moment → List Moment → List Moment
with_tags more tags = fold (λ now tag. with_tag tag now) tags more

-- how many of the tags are before one
abbrev pub count_before : Moment → List Moment → ℕ
count_before end tags = length (filter (λ t. is_before t end) tags)

-- the earlier one of a tag, if there is one, and another
abbrev pub earlier_of : Option Moment → Moment → Moment
earlier_of None tag = tag
earlier_of (Some t) tag = if is_before tag t then tag else t

-- with one more event, of a name that has one already or of one that has none
abbrev pub with_heard_event : Bool → Moment → Heard → Heard
with_heard_event has_event tag heard =
    if has_event then record heard { doubled = Some (earlier_of heard.doubled tag) } else record heard { events = with_tag tag heard.events }

-- so many names at least are there as the announcement says
abbrev pub IsReachedBy : Heard → Announced → Type 0
IsReachedBy heard a = (a.events ≤ count_before a.tag heard.events) × (a.withdrawn ≤ count_before a.tag heard.withdrawn)

-- more names are there than the announcement says, or one before its tag has two payloads
abbrev pub IsExceededBy : Heard → Announced → Type 0
IsExceededBy heard a =
    (a.events < count_before a.tag heard.events) ⊎ ((a.withdrawn < count_before a.tag heard.withdrawn)
    ⊎ ((t : Moment) × (heard.doubled ≡ Some t) × IsTrue (is_before t a.tag)))

-- up to this tag announcements are reached: the greatest such, or the beginning where none is
pub record IsHeardTo (heard : Heard) (end : Moment) : Type 0 where
  pub some : ((a : Announced) × Contains heard.announced a × IsReachedBy heard a × (a.tag ≡ end)) ⊎ (end ≡ beginning)
  pub greatest : (a : Announced) → Contains heard.announced a → IsReachedBy heard a → is_before end a.tag ≡ false

-- some announcement is exceeded
abbrev pub IsExceeded : Heard → Type 0
IsExceeded heard = (a : Announced) × Contains heard.announced a × IsExceededBy heard a

-- this is what the set has of the origin
pub record IsHeard (S : Records) (origin : ℕ) (heard : Heard) : Type 0 where
  pub ordered_events : AreAscending heard.events
  pub events : (tag : Moment) → Contains heard.events tag ↔ ((payload : ℕ × ℤ) × HasEvent S origin tag payload)
  pub ordered_withdrawn : AreAscending heard.withdrawn
  pub withdrawn : (tag : Moment) → Contains heard.withdrawn tag ↔ HasWithdrawal S origin tag
  pub doubled : IfSome heard.doubled (λ t. HasTwoPayloads S origin t)
  pub least_doubled : (tag : Moment) → HasTwoPayloads S origin tag → (t : Moment) × (heard.doubled ≡ Some t) × (is_before tag t ≡ false)
  pub announced : (tag : Moment) (events withdrawn : ℕ) →
      Contains heard.announced (record { tag = tag; events = events; withdrawn = withdrawn }) ↔ IsIn S (Announce origin tag events withdrawn)

-- this is heard of an origin, by its number; of one past the last nothing
abbrev pub heard_at : List Heard → ℕ → Heard
heard_at heards origin = get_or heards origin nothing_heard

-- these are what a list of records has of its origins, by number
pub record AreHeard (records : List Record) (heards : List Heard) : Type 0 where
  pub few : length heards ≤ most_origins widest
  pub each : (origin : ℕ) → IsHeard (set_of records) origin (heard_at heards origin)
