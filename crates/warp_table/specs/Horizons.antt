-- The two parts of a horizon: what the origins' own announcements give, and what joint ones do.
use Rattle.std.specs.Prelude.{◌≡◌, ◌⊎◌, ℕ, ◌<◌, false, if◌then◌else◌}
use Rattle.warp_tag.specs.Moment.{Moment, is_before}
use Rattle.warp_step.specs.Program.{Program}
use Rattle.warp_table.specs.Records.{Records}
use Rattle.warp_table.specs.Joint.{HasReachedJointly}
use Rattle.warp_table.specs.Announced.{HasReachedAlone, beginning}

-- up to this tag the origin's own announcements are reached: it is the greatest of the reached ones, or the beginning where none is
pub record ReachesAlone (S : Records) (origin : ℕ) (end : Moment) : Type 0 where
  pub some : HasReachedAlone S origin end ⊎ (end ≡ beginning)
  pub greatest : (other : Moment) → HasReachedAlone S origin other → is_before end other ≡ false

-- up to this tag joint announcements are reached: it is the greatest of the reached ones, or the beginning where none is
pub record ReachesJointly (S : Records) (end : Moment) : Type 0 where
  pub some : HasReachedJointly S end ⊎ (end ≡ beginning)
  pub greatest : (other : Moment) → HasReachedJointly S other → is_before end other ≡ false

-- the least tag up to which one of the program's origins has its own announcements reached
pub record IsHorizonAlone (P : Program) (S : Records) (end : Moment) : Type 0 where
  pub some : (origin : ℕ) × (origin < P.origins) × ReachesAlone S origin end
  pub least : (origin : ℕ) → origin < P.origins → (own : Moment) × ReachesAlone S origin own × (is_before own end ≡ false)

-- the later one of two tags
abbrev pub later : Moment → Moment → Moment
later a b = if is_before a b then b else a
