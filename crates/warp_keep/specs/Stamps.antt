-- Stamps: the tag that a host gives to an input of an origin.
use Rattle.std.specs.Prelude.{◌≡◌, ℕ, ◌<◌, ◌≤◌, false, Option, Some, None}
use Rattle.warp_tag.specs.Limits.{last_time, widest}
use Rattle.warp_tag.specs.Moment.{Moment, is_before}
use Rattle.warp_record.specs.declared.record.Record.{Record}
use Rattle.warp_table.specs.Records.{IsIn, Records}
use Rattle.warp_table.specs.Names.{IsOf}
use Rattle.warp_table.specs.Closed.{IsClosed}

-- the set has no record of this name, neither an event nor a withdrawal
abbrev pub IsFree : Records → ℕ → Moment → Type 0
IsFree S origin tag = (said : Record) → IsIn S said → ¬ IsOf origin tag said

-- a tag at which a stamp may be looked for: not closed to the origin, not before the asked one, its microstep one of the first so
-- many, and its time one that tags have
pub record IsOpenTag (room : ℕ) (S : Records) (origin : ℕ) (asked tag : Moment) : Type 0 where
  pub not_closed : ¬ IsClosed S origin tag
  pub asked_for : is_before tag asked ≡ false
  pub microstep : tag.microstep < room
  pub time : tag.time ≤ last_time widest

-- the stamp: the first free one of the open tags, and at the first time that has open ones
pub record IsStamp (room : ℕ) (S : Records) (origin : ℕ) (asked tag : Moment) : Type 0 where
  pub is_open : IsOpenTag room S origin asked tag
  pub is_free : IsFree S origin tag
  pub first : (other : Moment) → IsOpenTag room S origin asked other → IsFree S origin other → is_before other tag ≡ false
  pub near : (other : Moment) → IsOpenTag room S origin asked other → tag.time ≤ other.time

-- the tag from which on tags are open, where some are: for a proof alone
abbrev pub IsFirstOpen : ℕ → Records → ℕ → Moment → Option Moment → Type 0
IsFirstOpen room S origin asked None = (other : Moment) → ¬ IsOpenTag room S origin asked other
IsFirstOpen room S origin asked (Some tag) =
    IsOpenTag room S origin asked tag
    × ((other : Moment) → IsOpenTag room S origin asked other → is_before other tag ≡ false)

-- the first free microstep of a time, from a tag on, of the first so many: for a proof alone
abbrev pub IsFirstFree : ℕ → Records → ℕ → Moment → Option Moment → Type 0
IsFirstFree room S origin from None =
    (micro : ℕ) → from.microstep ≤ micro → micro < room → ¬ IsFree S origin (record { time = from.time; microstep = micro })
IsFirstFree room S origin from (Some tag) =
    (tag.time ≡ from.time) × (from.microstep ≤ tag.microstep) × (tag.microstep < room) × IsFree S origin tag
    × ((micro : ℕ) → from.microstep ≤ micro → micro < tag.microstep →
    ¬ IsFree S origin (record { time = from.time; microstep = micro }))
