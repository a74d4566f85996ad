-- What a host that keeps origins makes of a client's record, and what it says itself.
use Rattle.std.specs.Prelude.{◌≡◌, ◌≢◌, ◌⊎◌, ℕ, ℤ, ◌<◌, Bool, IsTrue, List, Contains, None}
use Rattle.warp_tag.specs.Moment.{Moment}
use Rattle.warp_step.specs.Program.{Program}
use Rattle.warp_record.specs.declared.record.Record.{Record}
use Rattle.warp_record.specs.declared.record.Record.TheVariants.{Event, Withdraw, Announce, Joint}
use Rattle.warp_table.specs.Records.{Records, set_of}
use Rattle.warp_table.specs.Names.{HasEvent}
use Rattle.warp_table.specs.Joint.{IsBrokenJointly}
use Rattle.warp_table.specs.Announced.{IsBroken}
use Rattle.warp_table.specs.Check.{refusal_of}
use Rattle.warp_table.specs.Closed.{AreCountsBefore, AreJointCountsBefore, IsClosed, IsDoubled}
use Rattle.warp_replica.specs.Gives.{IsNew}
use Rattle.warp_keep.specs.Kept.{MayCome, SaysJust, SaysJustJointly, SpeaksOfKept}
use Rattle.warp_keep.specs.declared.judging.Judgement.{Judgement}
use Rattle.warp_keep.specs.declared.judging.Judgement.TheVariants as judgement

-- an announcement, an origin's own or a joint one
abbrev pub IsAnyAnnouncement : Record → Type 0
IsAnyAnnouncement (Event origin tag input value) = ⊥
IsAnyAnnouncement (Withdraw origin tag) = ⊥
IsAnyAnnouncement (Announce origin end events withdrawn) = Unit {0}
IsAnyAnnouncement (Joint end events withdrawn) = Unit {0}

-- an event or a withdrawal of a name that is closed in the set
abbrev pub IsLate : Records → Record → Type 0
IsLate S (Event origin tag input value) = IsClosed S origin tag
IsLate S (Withdraw origin tag) = IsClosed S origin tag
IsLate S (Announce origin end events withdrawn) = ⊥
IsLate S (Joint end events withdrawn) = ⊥

-- an event of a name that has another payload in the set
abbrev pub Differs : Records → Record → Type 0
Differs S (Event origin tag input value) = (other : ℕ × ℤ) × HasEvent S origin tag other × (other ≢ (input, value))
Differs S (Withdraw origin tag) = ⊥
Differs S (Announce origin end events withdrawn) = ⊥
Differs S (Joint end events withdrawn) = ⊥

-- What a client's record is judged to be, in this order: left to the log where the program has a reason against it or it speaks of no
-- kept origin; an announcement, which is the host's alone; left to the log where it is there; late; with another payload; or, as it
-- may come, left to the log.
abbrev pub Judges : (ℕ → Bool) → Program → List Record → Record → Judgement → Type 0
Judges keeps P log said judgement.Open =
    (refusal_of P said ≢ None) ⊎ ((¬ SpeaksOfKept keeps said)
    ⊎ ((¬ IsAnyAnnouncement said) × (Contains log said ⊎ MayCome (set_of log) said)))
Judges keeps P log said judgement.Kept =
    (refusal_of P said ≡ None) × SpeaksOfKept keeps said × IsAnyAnnouncement said
Judges keeps P log said judgement.Late = IsNew P log said × SpeaksOfKept keeps said × IsLate (set_of log) said
Judges keeps P log said judgement.Differs =
    IsNew P log said × SpeaksOfKept keeps said × (¬ IsLate (set_of log) said) × Differs (set_of log) said

-- an announcement of the origin with the counts of its names in the set
abbrev pub HasCounts : Records → ℕ → Moment → Record → Type 0
HasCounts S origin end said =
    (events : ℕ) × (withdrawn : ℕ) × (said ≡ Announce origin end events withdrawn)
    × AreCountsBefore S origin end events withdrawn

-- a joint announcement with the counts of all names in the set
abbrev pub HasJointCounts : Records → Moment → Record → Type 0
HasJointCounts S end said =
    (events : ℕ) × (withdrawn : ℕ) × (said ≡ Joint end events withdrawn) × AreJointCountsBefore S end events withdrawn

-- the announcement by which the host closes the origin's tags before this one: it says just what the set has
abbrev pub IsClosing : Records → ℕ → Moment → Record → Type 0
IsClosing S origin end said =
    (events : ℕ) × (withdrawn : ℕ) × (said ≡ Announce origin end events withdrawn) × SaysJust S origin end events withdrawn

-- the joint one by which it closes those of all origins
abbrev pub IsJointClosing : Records → Moment → Record → Type 0
IsJointClosing S end said =
    (events : ℕ) × (withdrawn : ℕ) × (said ≡ Joint end events withdrawn) × SaysJustJointly S end events withdrawn

-- a host may begin to keep the origin over this set: no announcement that speaks of it is broken, and no name of it has two payloads
abbrev pub MayBeKept : Records → ℕ → Type 0
MayBeKept S origin = (¬ IsBroken S origin) × (¬ IsBrokenJointly S) × (¬ IsDoubled S origin)

-- of the program's origins this is the first that is kept and may not be
pub record IsFirstNotToBeKept (keeps : ℕ → Bool) (P : Program) (S : Records) (origin : ℕ) : Type 0 where
  pub declared : origin < P.origins
  pub kept : IsTrue (keeps origin)
  pub may_not : ¬ MayBeKept S origin
  pub first : (other : ℕ) → other < origin → IsTrue (keeps other) → MayBeKept S other
