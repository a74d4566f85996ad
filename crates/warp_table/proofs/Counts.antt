-- Counts of tags: what is counted under one description is counted under a wider one, and where the wider one has no more, the two
-- are of the same tags.
use Rattle.std.proofs.Common.{◌≡◌, inl, inr, ℕ, ◌+◌, ◌∷◌, Contains, sym, ◌∙◌, arith}
use Rattle.std.specs.Set.{is_member}
use Rattle.std.proofs.lemmas.Bool.{cases_Bool, both_ways}
use Rattle.std.proofs.lemmas.List.{get_or_default}
use Rattle.std.proofs.lemmas.List.Elements.{All-cons, All-contains, All-weaker}
use Rattle.std.proofs.lemmas.List.Kept.{AllPairs-cons}
use Rattle.std.proofs.lemmas.Map.Made.{is_member-Decides}
use Rattle.warp_tag.specs.Moment.{Moment, is_same}
use Rattle.warp_table.specs.Announced.{AtLeast}
use Rattle.warp_table.proofs.Sets.{same_tag}

-- so many are of a wider description at least
pub still_counted : (count : ℕ) (narrow wide : Moment → Type 0) → ((tag : Moment) → narrow tag → wide tag) → AtLeast count narrow → AtLeast count wide
still_counted count narrow wide each counted = (counted.0, counted.1, All-weaker narrow wide each counted.0 counted.2, counted.3)

-- one tag more than are listed
one_more : (count : ℕ) (are : Moment → Type 0) (tag : Moment) → are tag → (counted : AtLeast count are) → (Contains counted.0 tag → ⊥) → AtLeast (count + 1) are
one_more count are tag here counted new = (
  tag ∷ counted.0,
  AllPairs-cons (λ t u. t ≡ u → ⊥) tag counted.0 (λ k d below same. new (k, below, get_or_default counted.0 k tag d below ∙ sym same)) counted.1,
  All-cons are tag counted.0 here counted.2,
  omega (arith, counted.3),
)

-- where no more are of the wider description, what is of it is of the narrow one
pub all_counted : (count : ℕ) (narrow wide : Moment → Type 0) → ((tag : Moment) → narrow tag → wide tag) → AtLeast count narrow → (AtLeast (count + 1) wide → ⊥) → (tag : Moment) → wide tag → narrow tag
unfolding still_counted
all_counted count narrow wide each counted no_more tag here = elim (cases_Bool (is_member is_same counted.0 tag)) [
  | inl listed ↦ All-contains narrow counted.0 tag counted.2 ((is_member-Decides same_tag counted.0 tag).0 listed)
  | inr other ↦
      let new : Contains counted.0 tag → ⊥ = (λ has. both_ways (is_member is_same counted.0 tag) other ((is_member-Decides same_tag counted.0 tag).1 has)) in
      absurd (no_more (one_more count wide tag here (still_counted count narrow wide each counted) new))
]
