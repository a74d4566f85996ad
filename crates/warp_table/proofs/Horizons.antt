-- Horizons: a set has one, and a larger set has no earlier one.
use Rattle.std.proofs.Common.{◌≡◌, ℕ, false, inl, inr, arith, subst, sym}
use Rattle.std.proofs.lemmas.Bool.Decides.{nat_tests}
use Rattle.warp_tag.specs.Moment.{Moment, is_before}
use Rattle.warp_tag.proofs.Tags.{same_moment}
use Rattle.warp_step.specs.Program.{Program}
use Rattle.warp_table.specs.Records.{Records}
use Rattle.warp_table.specs.Announced.{IsHorizon, IsWithin, ReachesTo, beginning}
use Rattle.warp_table.proofs.Announcements.{reached_stays}

-- no tag is before the beginning
pub none_before_beginning : (tag : Moment) → is_before tag beginning ≡ false
none_before_beginning tag = grind (arith, nat_tests)

-- of three tags in order the last is not before the first
not_before_chain : (t u v : Moment) → is_before u t ≡ false → is_before v u ≡ false → is_before v t ≡ false
not_before_chain t u v h k = grind (arith, nat_tests)

-- in a larger set an origin's announcements are reached up to no earlier tag
reaches_no_earlier : (S T : Records) → IsWithin S T → (origin : ℕ) (a b : Moment) → ReachesTo S origin a → ReachesTo T origin b → is_before b a ≡ false
reaches_no_earlier S T within origin a b first later = elim first.some [
  | inl reached ↦ later.greatest a (reached_stays S T within origin a reached)
  | inr start ↦ subst (λ (x : Moment). is_before b x ≡ false) (sym start) (none_before_beginning b)
]

-- a larger set has no earlier horizon
pub later_horizon : (P : Program) (S T : Records) (a b : Moment) → IsWithin S T → IsHorizon P S a → IsHorizon P T b → is_before b a ≡ false
later_horizon P S T a b within first later =
    let origin = later.some.0 in
    let own = first.least origin later.some.1 in
    not_before_chain a own.0 b own.2 (reaches_no_earlier S T within origin own.0 b own.1 later.some.2)

-- a set has one horizon
pub one_horizon : (P : Program) (S : Records) (a b : Moment) → IsHorizon P S a → IsHorizon P S b → a ≡ b
one_horizon P S a b first other =
    same_moment a b (later_horizon P S S b a (λ said is_in. is_in) other first) (later_horizon P S S a b (λ said is_in. is_in) first other)
