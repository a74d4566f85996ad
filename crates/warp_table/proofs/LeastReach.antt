-- The least tag up to which one of some first origins has its own announcements reached.
use Rattle.std.proofs.Common.{◌≡◌, inl, inr, ℕ, ◌+◌, ◌<◌, false, true, subst, arith}
use Rattle.std.proofs.lemmas.Bool.{cases_eq}
use Rattle.std.proofs.lemmas.Bool.Decides.{nat_tests}
use Rattle.warp_tag.specs.Moment.{Moment, is_before}
use Rattle.warp_tag.proofs.Tags.{not_before_self}
use Rattle.warp_table.specs.Records.{Records}
use Rattle.warp_table.specs.Horizons.{ReachesAlone}

-- of so many first origins this is the least one
pub record IsLeastReach (S : Records) (count : ℕ) (end : Moment) : Type 0 where
  pub some : (origin : ℕ) × (origin < count) × ReachesAlone S origin end
  pub least : (origin : ℕ) → origin < count → (own : Moment) × ReachesAlone S origin own × (is_before own end ≡ false)

-- of the first origin alone
pub first_reach : (S : Records) (end : Moment) → ReachesAlone S 0 end → IsLeastReach S 1 end
first_reach S end reaches = record {
  some = (0, omega arith, reaches);
  least = λ origin lt. (let first : 0 ≡ origin = omega arith in (end, subst (λ (o : ℕ). ReachesAlone S o end) first reaches, not_before_self end));
}

-- what is not before a tag is not before an earlier one
not_before_later : (t u v : Moment) → is_before t u ≡ false → is_before v u ≡ true → is_before t v ≡ false
not_before_later t u v h k = grind (arith, nat_tests)

-- of one origin more, which reaches less far
pub lesser_reach : (S : Records) (count : ℕ) (end own : Moment) → IsLeastReach S count end → ReachesAlone S count own → is_before own end ≡ true → IsLeastReach S (count + 1) own
lesser_reach S count end own so_far reaches lesser = record {
  some = (count, omega arith, reaches);
  least = λ origin lt. elim (cases_eq count origin) [
    | inl here ↦ (own, subst (λ (o : ℕ). ReachesAlone S o own) here reaches, not_before_self own)
    | inr other ↦ (
        let old = so_far.least origin (omega arith) in
        (old.0, old.1, not_before_later old.0 end own old.2 lesser)
        )
  ];
}

-- of one origin more, which reaches as far at least
pub same_reach : (S : Records) (count : ℕ) (end own : Moment) → IsLeastReach S count end → ReachesAlone S count own → is_before own end ≡ false → IsLeastReach S (count + 1) end
same_reach S count end own so_far reaches not_lesser = record {
  some = (so_far.some.0, omega (arith, so_far.some.1), so_far.some.2);
  least = λ origin lt. elim (cases_eq count origin) [
    | inl here ↦ (own, subst (λ (o : ℕ). ReachesAlone S o own) here reaches, not_lesser)
    | inr other ↦ so_far.least origin (omega arith)
  ];
}
