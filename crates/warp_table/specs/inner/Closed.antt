-- Up to which tag the origin's own announcements and the joint ones close tags, and the last of announcements that are kept. For proofs
-- alone.
use Rattle.std.specs.Prelude.{◌≡◌, ◌⊎◌, ℕ, false, List, Contains, All}
use Rattle.warp_tag.specs.Moment.{Moment, is_before}
use Rattle.warp_table.specs.Records.{Records}
use Rattle.warp_table.specs.Announced.{beginning}
use Rattle.warp_table.specs.Closed.{IsAnnouncedAlone, IsAnnouncedJointly}

-- this is the greatest of the tags, or the beginning where there is none
pub record IsLastTag (tags : List Moment) (last : Moment) : Type 0 where
  pub some : Contains tags last ⊎ (last ≡ beginning)
  pub greatest : All (λ t. is_before last t ≡ false) tags

-- up to this tag the origin's own announcements close its tags: it is the greatest of theirs, or the beginning where there is none
pub record ClosesAlone (S : Records) (origin : ℕ) (end : Moment) : Type 0 where
  pub some : IsAnnouncedAlone S origin end ⊎ (end ≡ beginning)
  pub greatest : (other : Moment) → IsAnnouncedAlone S origin other → is_before end other ≡ false

-- and up to this one joint announcements do
pub record ClosesJointly (S : Records) (end : Moment) : Type 0 where
  pub some : IsAnnouncedJointly S end ⊎ (end ≡ beginning)
  pub greatest : (other : Moment) → IsAnnouncedJointly S other → is_before end other ≡ false
