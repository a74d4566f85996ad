-- Announcements: which are reached in a set of records, how far that lets the horizon come, and which are broken. No
-- order of arrival plays a part in it, and no count that is kept.
use Rattle.std.specs.Prelude.{◌≡◌, ◌≢◌, ◌⊎◌, ℕ, ℤ, ◌+◌, ◌<◌, false, IsTrue, List, length, All, AllPairs}
use Rattle.warp_tag.specs.Moment.{Moment, is_before}
use Rattle.warp_step.specs.Program.{Program}
use Rattle.warp_record.specs.declared.record.Record.{Record}
use Rattle.warp_record.specs.declared.record.Record.TheVariants.{Announce}
use Rattle.warp_table.specs.Records.{Records, IsIn}
use Rattle.warp_table.specs.Names.{HasEvent, HasWithdrawal, HasTwoPayloads}
use Rattle.warp_table.specs.Joint.{HasReachedJointly, IsBrokenJointly}

-- the names of the origin below a tag that have an event in the set, withdrawn or not: the tags of these names
abbrev pub events_below : Records → ℕ → Moment → Moment → Type 0
events_below S origin end tag = IsTrue (is_before tag end) × ((payload : ℕ × ℤ) × HasEvent S origin tag payload)

-- the names of the origin below a tag that have a withdrawal in the set
abbrev pub withdrawals_below : Records → ℕ → Moment → Moment → Type 0
withdrawals_below S origin end tag = IsTrue (is_before tag end) × HasWithdrawal S origin tag

-- so many tags at least are such
abbrev pub AtLeast : ℕ → (Moment → Type 0) → Type 0
AtLeast count are = (tags : List Moment) × AllPairs (λ t u. t ≢ u) tags × All are tags × (length tags ≡ count)

-- an announcement of the origin up to this tag, with these counts, is reached: so many names at least are there
abbrev pub IsReached : Records → ℕ → Moment → ℕ → ℕ → Type 0
IsReached S origin end events withdrawn =
    AtLeast events (events_below S origin end) × AtLeast withdrawn (withdrawals_below S origin end)

-- an announcement of the origin's own up to this tag is in the set and reached
abbrev pub HasReachedAlone : Records → ℕ → Moment → Type 0
HasReachedAlone S origin end =
    (events : ℕ) × (withdrawn : ℕ) × IsIn S (Announce origin end events withdrawn) × IsReached S origin end events withdrawn

-- an announcement up to this tag that speaks of the origin, one of its own or a joint one, is in the set and reached
abbrev pub HasReached : Records → ℕ → Moment → Type 0
HasReached S origin end = HasReachedAlone S origin end ⊎ HasReachedJointly S end

-- the beginning of time
abbrev pub beginning : Moment
beginning = record { time = 0; microstep = 0 }

-- up to this tag the announcements that speak of the origin are reached: it is the greatest of the reached ones, or the
-- beginning where none is
pub record ReachesTo (S : Records) (origin : ℕ) (end : Moment) : Type 0 where
  pub some : HasReached S origin end ⊎ (end ≡ beginning)
  pub greatest : (other : Moment) → HasReached S origin other → is_before end other ≡ false

-- the horizon of the set: the least tag up to which those that speak of one of the program's origins are reached. So it is the
-- later one of what the origins' own announcements give and of the greatest joint one that is reached (`horizon_of_both`).
pub record IsHorizon (P : Program) (S : Records) (end : Moment) : Type 0 where
  pub some : (origin : ℕ) × (origin < P.origins) × ReachesTo S origin end
  pub least : (origin : ℕ) → origin < P.origins → (own : Moment) × ReachesTo S origin own × (is_before own end ≡ false)

-- the origin broke an announcement of its: more names below its tag have an event, or a withdrawal, than it said, or one
-- of them has two payloads
abbrev pub IsBroken : Records → ℕ → Type 0
IsBroken S origin =
    (end : Moment) × (events : ℕ) × (withdrawn : ℕ) × IsIn S (Announce origin end events withdrawn)
    × (AtLeast (events + 1) (events_below S origin end)
    ⊎ (AtLeast (withdrawn + 1) (withdrawals_below S origin end)
    ⊎ ((tag : Moment) × IsTrue (is_before tag end) × HasTwoPayloads S origin tag)))

-- no origin broke an announcement, and no joint one is broken
pub record IsHonest (S : Records) : Type 0 where
  pub each : (origin : ℕ) → ¬ IsBroken S origin
  pub jointly : ¬ IsBrokenJointly S

-- each record of the one set is in the other
abbrev pub IsWithin : Records → Records → Type 0
IsWithin S T = (said : Record) → IsIn S said → IsIn T said
