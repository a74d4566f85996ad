-- What a set of records announces: a program that has an origin has a horizon over the set, the least tag up to which
-- one of its origins has its announcements reached.
use Rattle.std.proofs.Common.{◌≡◌, ◌↔◌, inl, inr, ℕ, zero, suc, ◌<◌, Bool, false, IsTrue, List, refl, sym, subst, arith}
use Rattle.std.proofs.lemmas.Bool.{cases_Bool, cases_lt}
use Rattle.std.proofs.lemmas.Bool.Decides.{nat_tests}
use Rattle.warp_tag.specs.Moment.{Moment, is_before}
use Rattle.warp_tag.proofs.Tags.{not_before_self, not_before_trans}
use Rattle.warp_step.specs.Program.{Program}
use Rattle.warp_step.specs.Valid.{is_valid}
use Rattle.warp_step.proofs.ValidLemmas.{validity}
use Rattle.warp_record.specs.declared.record.Record.{Record}
use Rattle.warp_table.specs.Announced.{IsBroken, IsHorizon, ReachesTo}
use Rattle.warp_table.specs.Joint.{IsBrokenJointly}
use Rattle.warp_table.specs.Records.{Records, set_of}
use Rattle.warp_table.proofs.Horizons.{none_before_beginning}
use Rattle.warp_table.proofs.SomeHeard.{some_breach}
use Rattle.warp_table.proofs.SomeJoint.{some_breach_jointly, some_reach}

module _ (f : ℕ → Moment) where
  -- no tag of the first so many is before this one
  abbrev IsLeast : ℕ → Moment → Type 0
  IsLeast count end = (i : ℕ) → i < count → is_before (f i) end ≡ false

  -- with one more, which is not before it either
  one_more : (count : ℕ) (end : Moment) → IsLeast count end → is_before (f count) end ≡ false → IsLeast (suc count) end
  one_more count end least last i below = elim (cases_lt i count) [
    | inl early ↦ least i early
    | inr late ↦
        let is : i ≡ count = omega (arith, below, late) in
        subst (λ (k : ℕ). is_before (f k) end ≡ false) (sym is) last
  ]

  -- some tag of the first so many is the least
  some_least : (count : ℕ) → (i : ℕ) × (i < suc count) × IsLeast (suc count) (f i)
  some_least zero =
      let none : IsLeast zero (f zero) = λ i below. absurd (omega (arith, below)) in
      (zero, omega arith, one_more zero (f zero) none (not_before_self (f zero)))
  some_least (suc count) =
      let rest = some_least count in
      elim (cases_Bool (is_before (f (suc count)) (f rest.0))) [
        | inl earlier ↦ (
          suc count,
          omega arith,
          one_more (suc count) (f (suc count))
              (λ i below. not_before_trans (f i) (f (suc count)) (f rest.0) (rest.2 i below) earlier)
              (not_before_self (f (suc count))),
        )
        | inr no_earlier ↦ (rest.0, omega (arith, rest.1), one_more (suc count) (f rest.0) rest.2 no_earlier)
      ]

-- a set's horizon, for each origin whether it broke an announcement, and whether a joint one is broken
pub record Announces (P : Program) (S : Records) : Type 0 where
  pub horizon : Moment
  pub reached : IsHorizon P S horizon
  pub broken : ℕ → Bool
  pub breaks : (origin : ℕ) → IsTrue (broken origin) ↔ IsBroken S origin
  pub broken_jointly : Bool
  pub breaks_jointly : IsTrue broken_jointly ↔ IsBrokenJointly S

-- where each origin's announcements reach to some tag, there is a least of these tags
pub some_horizon : (P : Program) (S : Records) → ((origin : ℕ) → (end : Moment) × ReachesTo S origin end) → 0 < P.origins
    → (end : Moment) × IsHorizon P S end
some_horizon P S reach some = from P.origins refl some
  where
    from : (count : ℕ) → P.origins ≡ count → 0 < count → (end : Moment) × IsHorizon P S end
    from zero is none = absurd (omega (arith, none))
    from (suc count) is more =
        let found = some_least (λ origin. (reach origin).0) count in (
          (reach found.0).0,
          record {
            some = (found.0, omega (arith, is, found.1), (reach found.0).1);
            least = λ origin below. ((reach origin).0, (reach origin).1, found.2 origin (omega (arith, is, below)));
          },
        )

-- what is not before a tag, which is not before an earlier one, is not before that
not_before_chain : (t u v : Moment) → is_before u t ≡ false → is_before v u ≡ false → is_before v t ≡ false
not_before_chain t u v h k = grind (arith, nat_tests)

-- a tag that is not before what an origin of the program reached is not before the horizon
pub past_reached : (P : Program) (S : Records) (origin : ℕ) (own tag end : Moment) → origin < P.origins → ReachesTo S origin own
    → is_before tag own ≡ false → IsHorizon P S end → is_before tag end ≡ false
past_reached P S origin own tag end below reaches past h =
    let least = h.least origin below in
    let no_earlier : is_before own least.0 ≡ false = elim least.1.some [
      | inl reached ↦ reaches.greatest least.0 reached
      | inr start ↦ subst (λ (x : Moment). is_before own x ≡ false) (sym start) (none_before_beginning own)
    ] in
    not_before_chain end own tag (not_before_chain end least.0 own least.2 no_earlier) past

-- the records of a list announce something to a program that has an origin
pub announces : (P : Program) (records : List Record) → 0 < P.origins → Announces P (set_of records)
announces P records some =
    let horizon = some_horizon P (set_of records) (some_reach records) some in
    record {
      horizon = horizon.0;
      reached = horizon.1;
      broken = λ origin. (some_breach records origin).0;
      breaks = λ origin. (some_breach records origin).1;
      broken_jointly = (some_breach_jointly records).0;
      breaks_jointly = (some_breach_jointly records).1;
    }

-- and to a valid one
pub announced_to : (P : Program) (records : List Record) → IsTrue (is_valid P) → Announces P (set_of records)
announced_to P records valid = announces P records (validity P valid).limits.origins_some

-- and to one that has a horizon over them
pub announced_before : (P : Program) (records : List Record) (end : Moment) → IsHorizon P (set_of records) end → Announces P (set_of records)
announced_before P records end reached = announces P records (omega (arith, reached.some.1))
