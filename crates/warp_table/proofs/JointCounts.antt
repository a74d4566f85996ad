-- Counts of names of all origins: what is counted under one description is counted under a wider one, and where the wider one has no
-- more, the two are of the same names.
use Rattle.std.proofs.Common.{◌≡◌, inl, inr, ℕ, ◌+◌, ◌==◌, ◌&&◌, Bool, ◌∷◌, Contains, sym, ◌∙◌, arith}
use Rattle.std.specs.Set.{is_member}
use Rattle.std.specs.Bool.{Decides}
use Rattle.std.proofs.lemmas.Bool.{cases_Bool, both_ways}
use Rattle.std.proofs.lemmas.Bool.Decides.{Decides-like}
use Rattle.std.proofs.lemmas.List.{get_or_default}
use Rattle.std.proofs.lemmas.List.Elements.{All-cons, All-contains, All-weaker}
use Rattle.std.proofs.lemmas.List.Kept.{AllPairs-cons}
use Rattle.std.proofs.lemmas.Map.Made.{is_member-Decides}
use Rattle.warp_tag.specs.Moment.{Moment, is_same}
use Rattle.warp_table.specs.Joint.{AtLeastNames}
use Rattle.warp_table.proofs.Sets.{same_name}

-- the names are one
abbrev pub is_one_name : ℕ × Moment → ℕ × Moment → Bool
is_one_name m n = m.0 == n.0 && is_same m.1 n.1

pub one_name : (m n : ℕ × Moment) → Decides (is_one_name m n) (m ≡ n)
one_name m n = Decides-like (is_one_name m n) (λ e i. (e.0 i, e.1 i)) (λ e. (cc, cc)) (same_name m.0 n.0 m.1 n.1)

-- so many are of a wider description at least
pub still_named : (count : ℕ) (narrow wide : ℕ × Moment → Type 0) → ((name : ℕ × Moment) → narrow name → wide name) → AtLeastNames count narrow → AtLeastNames count wide
still_named count narrow wide each counted = (counted.0, counted.1, All-weaker narrow wide each counted.0 counted.2, counted.3)

-- one name more than are listed
one_more : (count : ℕ) (are : ℕ × Moment → Type 0) (name : ℕ × Moment) → are name → (counted : AtLeastNames count are) → (Contains counted.0 name → ⊥) → AtLeastNames (count + 1) are
one_more count are name here counted new = (
  name ∷ counted.0,
  AllPairs-cons (λ t u. t ≡ u → ⊥) name counted.0 (λ k d below same. new (k, below, get_or_default counted.0 k name d below ∙ sym same)) counted.1,
  All-cons are name counted.0 here counted.2,
  omega (arith, counted.3),
)

-- where no more are of the wider description, what is of it is of the narrow one
pub all_named : (count : ℕ) (narrow wide : ℕ × Moment → Type 0) → ((name : ℕ × Moment) → narrow name → wide name) → AtLeastNames count narrow → (AtLeastNames (count + 1) wide → ⊥) → (name : ℕ × Moment) → wide name → narrow name
unfolding still_named
all_named count narrow wide each counted no_more name here = elim (cases_Bool (is_member is_one_name counted.0 name)) [
  | inl listed ↦ All-contains narrow counted.0 name counted.2 ((is_member-Decides one_name counted.0 name).0 listed)
  | inr other ↦
      let new : Contains counted.0 name → ⊥ = (λ has. both_ways (is_member is_one_name counted.0 name) other ((is_member-Decides one_name counted.0 name).1 has)) in
      absurd (no_more (one_more count wide name here (still_named count narrow wide each counted) new))
]
