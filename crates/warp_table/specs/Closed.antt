-- Which tags announcements close, reached or not, how many names there are before a tag, and whether an origin gave two payloads to a
-- name. No order of arrival plays a part in it.
use Rattle.std.specs.Prelude.{◌≡◌, ◌≢◌, ◌⊎◌, ◌↔◌, ℕ, false, IsTrue, List, length, Contains, AllPairs}
use Rattle.warp_tag.specs.Moment.{Moment, is_before}
use Rattle.warp_record.specs.declared.record.Record.TheVariants.{Announce, Joint}
use Rattle.warp_table.specs.Records.{Records, IsIn}
use Rattle.warp_table.specs.Names.{HasTwoPayloads}
use Rattle.warp_table.specs.Joint.{all_events_below, all_withdrawals_below}
use Rattle.warp_table.specs.Announced.{beginning, events_below, withdrawals_below}
use Rattle.warp_table.specs.NameCounts.{AreSoMany}

-- an announcement of the origin's own up to this tag is in the set
abbrev pub IsAnnouncedAlone : Records → ℕ → Moment → Type 0
IsAnnouncedAlone S origin end = (events : ℕ) × (withdrawn : ℕ) × IsIn S (Announce origin end events withdrawn)

-- a joint announcement up to this tag is in the set
abbrev pub IsAnnouncedJointly : Records → Moment → Type 0
IsAnnouncedJointly S end = (events : ℕ) × (withdrawn : ℕ) × IsIn S (Joint end events withdrawn)

-- an announcement up to this tag that speaks of the origin, one of its own or a joint one, is in the set
abbrev pub IsAnnouncedTo : Records → ℕ → Moment → Type 0
IsAnnouncedTo S origin end = IsAnnouncedAlone S origin end ⊎ IsAnnouncedJointly S end

-- the tag is closed to the origin: one that speaks of it is up to a later tag
abbrev pub IsClosed : Records → ℕ → Moment → Type 0
IsClosed S origin tag = (end : Moment) × IsAnnouncedTo S origin end × IsTrue (is_before tag end)

-- up to this tag the origin's tags are closed: it is the greatest tag of the announcements that speak of the origin, or the
-- beginning where there is none
pub record ClosesAt (S : Records) (origin : ℕ) (end : Moment) : Type 0 where
  pub some : IsAnnouncedTo S origin end ⊎ (end ≡ beginning)
  pub greatest : (other : Moment) → IsAnnouncedTo S origin other → is_before end other ≡ false

-- so many names of the origin before the tag have an event in the set, so many a withdrawal, and no more
pub record AreCountsBefore (S : Records) (origin : ℕ) (end : Moment) (event_count withdrawal_count : ℕ) : Type 0 where
  pub events : AreSoMany event_count (events_below S origin end)
  pub withdrawn : AreSoMany withdrawal_count (withdrawals_below S origin end)

-- so many names are such, and no more
abbrev pub AreSoManyNames : ℕ → (ℕ × Moment → Type 0) → Type 0
AreSoManyNames count are =
    (names : List (ℕ × Moment)) × AllPairs (λ m n. m ≢ n) names × ((name : ℕ × Moment) → Contains names name ↔ are name)
    × (length names ≡ count)

-- so many names of all origins before the tag have an event in the set, so many a withdrawal, and no more
pub record AreJointCountsBefore (S : Records) (end : Moment) (event_count withdrawal_count : ℕ) : Type 0 where
  pub events : AreSoManyNames event_count (all_events_below S end)
  pub withdrawn : AreSoManyNames withdrawal_count (all_withdrawals_below S end)

-- a name of the origin has two payloads
abbrev pub IsDoubled : Records → ℕ → Type 0
IsDoubled S origin = (tag : Moment) × HasTwoPayloads S origin tag
