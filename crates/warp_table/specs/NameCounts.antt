-- How many names of an origin a set of records has, and how far they go. No order of arrival plays a part in it.
use Rattle.std.specs.Prelude.{◌≡◌, ◌≢◌, ◌⊎◌, ◌↔◌, ℕ, ℤ, false, List, length, Contains, AllPairs}
use Rattle.warp_tag.specs.Moment.{Moment, is_before}
use Rattle.warp_record.specs.declared.record.Record.{Record}
use Rattle.warp_table.specs.Records.{Records, IsIn}
use Rattle.warp_table.specs.Names.{HasEvent, HasWithdrawal, IsOf}
use Rattle.warp_table.specs.Announced.{beginning}
use Rattle.warp_table.specs.declared.table.NameCounts.{NameCounts}

-- so many tags are such, and no more
abbrev pub AreSoMany : ℕ → (Moment → Type 0) → Type 0
AreSoMany count are =
    (tags : List Moment) × AllPairs (λ t u. t ≢ u) tags × ((tag : Moment) → Contains tags tag ↔ are tag)
    × (length tags ≡ count)

-- the origin's name with this tag has an event in the set, withdrawn or not
abbrev pub HasSomeEvent : Records → ℕ → Moment → Type 0
HasSomeEvent S origin tag = (payload : ℕ × ℤ) × HasEvent S origin tag payload

-- the set has a record of the origin's name with this tag: an event or a withdrawal
abbrev pub HasName : Records → ℕ → Moment → Type 0
HasName S origin tag = (said : Record) × IsIn S said × IsOf origin tag said

-- this is the greatest tag of the origin's names, or the beginning where it has none
pub record IsLastName (S : Records) (origin : ℕ) (last : Moment) : Type 0 where
  pub some : HasName S origin last ⊎ (last ≡ beginning)
  pub greatest : (other : Moment) → HasName S origin other → is_before last other ≡ false

-- so many names of the origin have an event in the set, so many a withdrawal, and this is the greatest tag of both
pub record AreCounts (S : Records) (origin : ℕ) (counts : NameCounts) : Type 0 where
  pub events : AreSoMany counts.events (HasSomeEvent S origin)
  pub withdrawn : AreSoMany counts.withdrawn (HasWithdrawal S origin)
  pub last : IsLastName S origin counts.last
