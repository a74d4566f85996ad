-- Kept origins: what may come into a log whose owner speaks for them. No clock plays a part in it, and no client's word.
use Rattle.std.specs.Prelude.{◌≡◌, ℕ, ℤ, ◌+◌, ◌<◌, Bool, IsTrue, Some, List, [], ◌∷◌, ◌++◌}
use Rattle.warp_tag.specs.Moment.{Moment, is_before}
use Rattle.warp_step.specs.Program.{Program}
use Rattle.warp_record.specs.Record.{origin_of}
use Rattle.warp_record.specs.declared.record.Record.{Record}
use Rattle.warp_record.specs.declared.record.Record.TheVariants.{Event, Withdraw, Announce, Joint}
use Rattle.warp_table.specs.Records.{IsIn, Records, set_of}
use Rattle.warp_table.specs.Names.{HasEvent, HasTwoPayloads}
use Rattle.warp_table.specs.Joint.{AtLeastNames, IsReachedJointly, all_events_below, all_withdrawals_below}
use Rattle.warp_table.specs.Announced.{AtLeast, IsReached, events_below, withdrawals_below}
use Rattle.warp_table.specs.Closed.{IsClosed}

-- each of the program's origins is kept
abbrev pub AreAllKept : Program → (ℕ → Bool) → Type 0
AreAllKept P keeps = (origin : ℕ) → origin < P.origins → IsTrue (keeps origin)

-- the record speaks of a kept origin: it is that origin's, or a joint announcement, which speaks of all
abbrev pub SpeaksOfKept : (ℕ → Bool) → Record → Type 0
SpeaksOfKept keeps (Event origin tag input value) = IsTrue (keeps origin)
SpeaksOfKept keeps (Withdraw origin tag) = IsTrue (keeps origin)
SpeaksOfKept keeps (Announce origin end events withdrawn) = IsTrue (keeps origin)
SpeaksOfKept keeps (Joint end events withdrawn) = (origin : ℕ) × IsTrue (keeps origin)

-- The announcement says no less than the set has: no more names of the origin before its tag have an event, or a withdrawal, and
-- none of them has two payloads.
pub record SaysAll (S : Records) (origin : ℕ) (end : Moment) (events withdrawn : ℕ) : Type 0 where
  pub no_more : ¬ AtLeast (events + 1) (events_below S origin end)
  pub no_more_withdrawn : ¬ AtLeast (withdrawn + 1) (withdrawals_below S origin end)
  pub single : (tag : Moment) → IsTrue (is_before tag end) → ¬ HasTwoPayloads S origin tag

-- the same of a joint announcement, and the names of all origins
pub record SaysAllJointly (S : Records) (end : Moment) (events withdrawn : ℕ) : Type 0 where
  pub no_more : ¬ AtLeastNames (events + 1) (all_events_below S end)
  pub no_more_withdrawn : ¬ AtLeastNames (withdrawn + 1) (all_withdrawals_below S end)
  pub single : (origin : ℕ) (tag : Moment) → IsTrue (is_before tag end) → ¬ HasTwoPayloads S origin tag

-- it says just what the set has: and so it is reached at once
abbrev pub SaysJust : Records → ℕ → Moment → ℕ → ℕ → Type 0
SaysJust S origin end events withdrawn = SaysAll S origin end events withdrawn × IsReached S origin end events withdrawn

-- the same of a joint announcement
abbrev pub SaysJustJointly : Records → Moment → ℕ → ℕ → Type 0
SaysJustJointly S end events withdrawn = SaysAllJointly S end events withdrawn × IsReachedJointly S end events withdrawn

-- no event of this name has another payload
abbrev pub IsSingle : Records → ℕ → Moment → ℕ × ℤ → Type 0
IsSingle S origin tag payload = (other : ℕ × ℤ) → HasEvent S origin tag other → other ≡ payload

-- A record that may come behind these: of a name that is not closed, and if it is an event, of none that has another payload; or
-- an announcement that says no less than they have.
abbrev pub MayCome : Records → Record → Type 0
MayCome S (Event origin tag input value) = (¬ IsClosed S origin tag) × IsSingle S origin tag (input, value)
MayCome S (Withdraw origin tag) = ¬ IsClosed S origin tag
MayCome S (Announce origin end events withdrawn) = SaysAll S origin end events withdrawn
MayCome S (Joint end events withdrawn) = SaysAllJointly S end events withdrawn

-- Behind this log came these records, in their order; each that speaks of a kept origin was one that might come then.
abbrev pub NoneBehind : (ℕ → Bool) → List Record → List Record → Type 0
NoneBehind keeps log [] = Unit {0}
NoneBehind keeps log (said ∷ more) =
    (SpeaksOfKept keeps said → MayCome (set_of log) said) × NoneBehind keeps (log ++ said ∷ []) more

-- the log goes on from its first records with such
abbrev pub GoesOn : (ℕ → Bool) → List Record → List Record → Type 0
GoesOn keeps first log = (more : List Record) × (log ≡ first ++ more) × NoneBehind keeps first more

-- what the set has of the origin's own records the log has
abbrev pub HasFrom : Records → ℕ → List Record → Type 0
HasFrom S origin log = (said : Record) → IsIn S said → origin_of said ≡ Some origin → IsIn (set_of log) said
