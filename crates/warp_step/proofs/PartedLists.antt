-- Lists that a test parts: what passes is a front, and all behind it fails.
use Rattle.std.proofs.Common.{◌≡◌, ℕ, zero, suc, ◌<◌, ◌≤◌, Bool, true, false, List, [], ◌∷◌, ◌++◌, length, take, ap, sym, ◌∙◌, refl, subst, arith, filter}
use Rattle.std.specs.List.{AllByRecursion}
use Rattle.std.specs.List.Sorted.{IsPartitionedBy, IsPartitionPoint}
use Rattle.std.proofs.lemmas.List.{append_assoc, append-nil, take_at}
use Rattle.std.proofs.lemmas.List.Elements.{All-from_recursion, filter-append}
use Rattle.warp_tag.specs.Lists.{StartsWith}
use Rattle.warp_tag.proofs.Lists.{All-append, All-weaker, filter-here, filter-past}

-- what passes is a front, and all behind it fails
pub record IsParted {X : Type 0} (p : X → Bool) (xs : List X) : Type 0 where
  pub front : List X
  pub back : List X
  pub whole : xs ≡ front ++ back
  pub passes : AllByRecursion (λ x. p x ≡ true) front
  pub fails : AllByRecursion (λ x. p x ≡ false) back

-- a filter keeps what passes, and nothing of what fails
pub filter_all : {X : Type 0} (p : X → Bool) (xs : List X) → AllByRecursion (λ x. p x ≡ true) xs → filter p xs ≡ xs
filter_all p [] a = refl
filter_all p (x ∷ xs) a = filter-here p x xs a.0 ∙ ap (λ ys. x ∷ ys) (filter_all p xs a.1)

pub filter_none : {X : Type 0} (p : X → Bool) (xs : List X) → AllByRecursion (λ x. p x ≡ false) xs → filter p xs ≡ []
filter_none p [] a = refl
filter_none p (x ∷ xs) a = filter-past p x xs a.0 ∙ filter_none p xs a.1

module _ {X : Type 0} (p : X → Bool) where
  -- a list of which all fails, and one with more in front that passes
  pub all_behind : (xs : List X) → AllByRecursion (λ x. p x ≡ false) xs → IsParted p xs
  all_behind xs a = record { front = []; back = xs; whole = refl; passes = tt; fails = a }

  pub more_in_front : (ys xs : List X) → AllByRecursion (λ x. p x ≡ true) ys → IsParted p xs → IsParted p (ys ++ xs)
  more_in_front ys xs a parted = record {
    front = ys ++ parted.front;
    back = parted.back;
    whole = ap (λ zs. ys ++ zs) parted.whole ∙ sym (append_assoc ys parted.front parted.back);
    passes = All-append (λ x. p x ≡ true) ys parted.front a parted.passes;
    fails = parted.fails;
  }

  -- the filter keeps the front
  pub kept : (xs : List X) (parted : IsParted p xs) → filter p xs ≡ parted.front
  kept xs parted =
      ap (filter p) parted.whole ∙ filter-append p parted.front parted.back
      ∙ ap (λ zs. zs ++ filter p parted.back) (filter_all p parted.front parted.passes)
      ∙ ap (λ zs. parted.front ++ zs) (filter_none p parted.back parted.fails) ∙ append-nil parted.front

  -- so the list begins with what the filter keeps
  pub begins_kept : (xs : List X) → IsParted p xs → StartsWith xs (filter p xs)
  begins_kept xs parted = (parted.back, parted.whole ∙ ap (λ zs. zs ++ parted.back) (sym (kept xs parted)))

  -- and so does what a weaker test keeps of it
  pub begins_wider : (q : X → Bool) (xs : List X) → ((x : X) → p x ≡ true → q x ≡ true) → IsParted p xs → StartsWith (filter q xs) (filter p xs)
  begins_wider q xs weaker parted =
      let passing = All-weaker (λ x. p x ≡ true) (λ x. q x ≡ true) weaker parted.front parted.passes in
      let front : filter q parted.front ≡ filter p xs = filter_all q parted.front passing ∙ sym (kept xs parted) in
      (filter q parted.back, ap (filter q) parted.whole ∙ filter-append q parted.front parted.back ∙ ap (λ zs. zs ++ filter q parted.back) front)

  -- no element that passes stands behind one that fails
  joined : (front back : List X) → AllByRecursion (λ x. p x ≡ true) front → AllByRecursion (λ x. p x ≡ false) back → IsPartitionedBy p (front ++ back)
  joined [] back passes fails i j d le lt h = let no : true ≡ false = sym h ∙ All-from_recursion (λ x. p x ≡ false) back fails j d lt in cc
  joined (x ∷ front) back passes fails zero j d le lt h = passes.0
  joined (x ∷ front) back passes fails (suc i) zero d le lt h = absurd (omega arith)
  joined (x ∷ front) back passes fails (suc i) (suc j) d le lt h = joined front back passes.1 fails i j d (omega arith) (omega arith) h

  pub is_partitioned : (xs : List X) → IsParted p xs → IsPartitionedBy p xs
  is_partitioned xs parted = subst (IsPartitionedBy p) (sym parted.whole) (joined parted.front parted.back parted.passes parted.fails)

  -- the point of the partition is how much passes
  point_of : (front back : List X) (n : ℕ) → AllByRecursion (λ x. p x ≡ true) front → AllByRecursion (λ x. p x ≡ false) back → n ≤ length (front ++ back)
      → IsPartitionPoint (λ x. p x ≡ true) (λ x. p x ≡ false) (front ++ back) n → n ≡ length front
  point_of [] [] n passes fails le point = omega arith
  point_of [] (x ∷ back) zero passes fails le point = refl
  point_of [] (x ∷ back) (suc n) passes fails le point = let no : true ≡ false = sym (point.0 0 x (omega arith) (omega arith)) ∙ fails.0 in cc
  point_of (x ∷ front) back zero passes fails le point = let no : true ≡ false = sym passes.0 ∙ point.1 0 x (omega arith) (omega arith) in cc
  point_of (x ∷ front) back (suc n) passes fails le point =
      let within = (λ (k : ℕ) (d : X) (low : 0 ≤ k) (high : k < n). point.0 (suc k) d (omega arith) (omega arith)) in
      let beyond = (λ (k : ℕ) (d : X) (low : n ≤ k) (high : k < length (front ++ back)). point.1 (suc k) d (omega arith) (omega arith)) in
      ap suc (point_of front back n passes.1 fails (omega arith) (within, beyond))

  pub point_is_kept : (xs : List X) (n : ℕ) → IsParted p xs → n ≤ length xs → IsPartitionPoint (λ x. p x ≡ true) (λ x. p x ≡ false) xs n
      → n ≡ length (filter p xs)
  point_is_kept xs n parted le point =
      let within = subst (λ zs. n ≤ length zs) parted.whole le in
      let there = subst (λ zs. IsPartitionPoint (λ x. p x ≡ true) (λ x. p x ≡ false) zs n) parted.whole point in
      point_of parted.front parted.back n parted.passes parted.fails within there ∙ ap length (sym (kept xs parted))

  -- and the front up to it is what the filter keeps
  pub take_kept : (xs : List X) → IsParted p xs → filter p xs ≡ take (length (filter p xs)) xs
  take_kept xs parted =
      let begins = begins_kept xs parted in
      sym (ap (take (length (filter p xs))) begins.1 ∙ take_at (filter p xs) begins.0 (length (filter p xs)) refl)

  pub take_point : (xs : List X) (n : ℕ) → IsParted p xs → n ≤ length xs → IsPartitionPoint (λ x. p x ≡ true) (λ x. p x ≡ false) xs n
      → take n xs ≡ filter p xs
  take_point xs n parted le point = ap (λ k. take k xs) (point_is_kept xs n parted le point) ∙ sym (take_kept xs parted)
