-- How many reactions may have wishes, which spares walks over lists of wishes.
use Rattle.std.specs.Prelude.{◌≡◌, ◌≢◌, ◌<◌, ℕ, List, [], length, slice_index_or}
use Rattle.warp_body.specs.declared.stmt.Wish.{Wish}
use Rattle.warp_step.specs.declared.react.Wished.{Wished}

-- where no reaction may have wishes, no list has one; where one may, there is its list, and no other list has one
pub record AreOf (wished : Wished) (lists : List (List Wish)) : Type 0 where
  pub none : wished.count ≡ 0 → (n : ℕ) → slice_index_or lists n [] ≡ []
  pub one : wished.count ≡ 1 → (n : ℕ) → n ≢ wished.last → slice_index_or lists n [] ≡ []
  pub within : wished.count ≡ 1 → wished.last < length lists
