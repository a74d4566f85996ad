-- Joint announcements, each of all origins together: which are reached in a set of records, and which are broken in it. A name is an
-- origin and a tag. No order of arrival plays a part in it, and no count that is kept.
use Rattle.std.specs.Prelude.{◌≡◌, ◌≢◌, ◌⊎◌, ℕ, ℤ, ◌+◌, IsTrue, List, length, All, AllPairs}
use Rattle.warp_tag.specs.Moment.{Moment, is_before}
use Rattle.warp_record.specs.declared.record.Record.TheVariants.{Joint}
use Rattle.warp_table.specs.Records.{Records, IsIn}
use Rattle.warp_table.specs.Names.{HasEvent, HasWithdrawal, HasTwoPayloads}

-- the names of all origins below a tag that have an event in the set, withdrawn or not
abbrev pub all_events_below : Records → Moment → ℕ × Moment → Type 0
all_events_below S end name = IsTrue (is_before name.1 end) × ((payload : ℕ × ℤ) × HasEvent S name.0 name.1 payload)

-- the names of all origins below a tag that have a withdrawal in the set
abbrev pub all_withdrawals_below : Records → Moment → ℕ × Moment → Type 0
all_withdrawals_below S end name = IsTrue (is_before name.1 end) × HasWithdrawal S name.0 name.1

-- so many names at least are such
abbrev pub AtLeastNames : ℕ → (ℕ × Moment → Type 0) → Type 0
AtLeastNames count are =
    (names : List (ℕ × Moment)) × AllPairs (λ m n. m ≢ n) names × All are names × (length names ≡ count)

-- a joint announcement up to this tag, with these counts, is reached: so many names at least are there
abbrev pub IsReachedJointly : Records → Moment → ℕ → ℕ → Type 0
IsReachedJointly S end events withdrawn =
    AtLeastNames events (all_events_below S end) × AtLeastNames withdrawn (all_withdrawals_below S end)

-- a joint announcement up to this tag is in the set and reached
abbrev pub HasReachedJointly : Records → Moment → Type 0
HasReachedJointly S end =
    (events : ℕ) × (withdrawn : ℕ) × IsIn S (Joint end events withdrawn) × IsReachedJointly S end events withdrawn

-- a joint announcement is broken: more names below its tag have an event, or a withdrawal, than it said, or one of them has two
-- payloads
abbrev pub IsBrokenJointly : Records → Type 0
IsBrokenJointly S =
    (end : Moment) × (events : ℕ) × (withdrawn : ℕ) × IsIn S (Joint end events withdrawn)
    × (AtLeastNames (events + 1) (all_events_below S end)
    ⊎ (AtLeastNames (withdrawn + 1) (all_withdrawals_below S end)
    ⊎ ((origin : ℕ) × (tag : Moment) × IsTrue (is_before tag end) × HasTwoPayloads S origin tag)))
