-- The horizon and its two parts: the origins' own announcements, and joint ones.
use Rattle.std.proofs.Common.{◌≡◌, ◌⊎◌, inl, inr, ℕ, Bool, true, false, if◌then◌else◌, refl, sym, subst, arith}
use Rattle.std.proofs.lemmas.Bool.Decides.{nat_tests}
use Rattle.warp_tag.specs.Moment.{Moment, is_before}
use Rattle.warp_tag.proofs.Tags.{not_before_self}
use Rattle.warp_step.specs.Program.{Program}
use Rattle.warp_record.specs.declared.record.Record.TheVariants.{Joint}
use Rattle.warp_table.specs.Announced.{HasReached, HasReachedAlone, IsHorizon, ReachesTo, beginning}
use Rattle.warp_table.specs.Horizons.{IsHorizonAlone, ReachesAlone, ReachesJointly, later}
use Rattle.warp_table.specs.Joint.{HasReachedJointly}
use Rattle.warp_table.specs.Records.{IsIn, Records}

-- the later one of two tags is one of them, and is behind neither
pub record IsLater (a b end : Moment) : Type 0 where
  pub one : (end ≡ a) ⊎ (end ≡ b)
  pub first : (t : Moment) → is_before a t ≡ false → is_before end t ≡ false
  pub second : (t : Moment) → is_before b t ≡ false → is_before end t ≡ false
  pub least : (t : Moment) → is_before t a ≡ false → is_before t b ≡ false → is_before t end ≡ false

further : (a b t : Moment) → is_before a b ≡ true → is_before a t ≡ false → is_before b t ≡ false
further a b t h k = grind (arith, nat_tests)

not_behind : (a b t : Moment) → is_before a b ≡ false → is_before b t ≡ false → is_before a t ≡ false
not_behind a b t h k = grind (arith, nat_tests)

later_is : (a b : Moment) (test : Bool) → is_before a b ≡ test → IsLater a b (if test then b else a)
later_is a b true h = record { one = inr refl; first = λ t k. further a b t h k; second = λ t k. k; least = λ t k l. l }
later_is a b false h = record { one = inl refl; first = λ t k. k; second = λ t k. not_behind a b t h k; least = λ t k l. k }

pub is_later : (a b : Moment) → IsLater a b (later a b)
is_later a b = later_is a b (is_before a b) refl

-- an origin is reached up to the later one of its own tag and the joint one
pub reaches_both : (S : Records) (origin : ℕ) (own joint : Moment) → ReachesAlone S origin own → ReachesJointly S joint → ReachesTo S origin (later own joint)
reaches_both S origin own joint alone jointly =
    let is = is_later own joint in
    record {
      some = elim is.one [
        | inl e ↦ elim alone.some [
          | inl reached ↦ inl (inl (subst (λ (t : Moment). HasReachedAlone S origin t) (sym e) reached))
          | inr start ↦ inr (subst (λ (t : Moment). t ≡ beginning) (sym e) start)
        ]
        | inr e ↦ elim jointly.some [
          | inl reached ↦ inl (inr (subst (λ (t : Moment). HasReachedJointly S t) (sym e) reached))
          | inr start ↦ inr (subst (λ (t : Moment). t ≡ beginning) (sym e) start)
        ]
      ];
      greatest = λ other reached. elim reached [
        | inl own_one ↦ is.first other (alone.greatest other own_one)
        | inr joint_one ↦ is.second other (jointly.greatest other joint_one)
      ];
    }

-- what is later than two tags is so where one of them is earlier
still_later : (own end joint : Moment) → is_before own end ≡ false → is_before (later own joint) (later end joint) ≡ false
still_later own end joint h =
    let mine = is_later own joint in
    let whole = is_later end joint in
    elim whole.one [
      | inl e ↦ subst (λ (t : Moment). is_before (later own joint) t ≡ false) (sym e) (mine.first end h)
      | inr e ↦ subst (λ (t : Moment). is_before (later own joint) t ≡ false) (sym e) (mine.second joint (not_before_self joint))
    ]

-- the horizon is the later one of its two parts
pub horizon_of_both : (P : Program) (S : Records) (own joint : Moment) → IsHorizonAlone P S own → ReachesJointly S joint → IsHorizon P S (later own joint)
horizon_of_both P S own joint alone jointly = record {
  some = (alone.some.0, alone.some.1, reaches_both S alone.some.0 own joint alone.some.2 jointly);
  least = λ origin below. (
      let mine = alone.least origin below in
      (later mine.0 joint, reaches_both S origin mine.0 joint mine.1 jointly, still_later mine.0 own joint mine.2)
      );
}

-- where there is no joint announcement, those that speak of an origin are its own
module _ (S : Records) (none : (end : Moment) (events withdrawn : ℕ) → IsIn S (Joint end events withdrawn) → ⊥) where
  is_own : (origin : ℕ) (end : Moment) → HasReached S origin end → HasReachedAlone S origin end
  is_own origin end reached = elim reached [
    | inl own ↦ own
    | inr jointly ↦ absurd (none end jointly.0 jointly.1 jointly.2)
  ]

  alone : (origin : ℕ) (end : Moment) → ReachesTo S origin end → ReachesAlone S origin end
  alone origin end to = record {
    some = elim to.some [
      | inl reached ↦ inl (is_own origin end reached)
      | inr start ↦ inr start
    ];
    greatest = λ other reached. to.greatest other (inl reached);
  }

  together : (origin : ℕ) (end : Moment) → ReachesAlone S origin end → ReachesTo S origin end
  together origin end to = record {
    some = elim to.some [
      | inl reached ↦ inl (inl reached)
      | inr start ↦ inr start
    ];
    greatest = λ other reached. to.greatest other (is_own origin other reached);
  }

  -- and the horizon is that of the origins' own
  pub without_joint : (P : Program) (end : Moment) → IsHorizon P S end → IsHorizonAlone P S end
  without_joint P end h = record {
    some = (h.some.0, h.some.1, alone h.some.0 end h.some.2);
    least = λ origin below. (let own = h.least origin below in (own.0, alone origin own.0 own.1, own.2));
  }

  pub with_own_alone : (P : Program) (end : Moment) → IsHorizonAlone P S end → IsHorizon P S end
  with_own_alone P end h = record {
    some = (h.some.0, h.some.1, together h.some.0 end h.some.2);
    least = λ origin below. (let own = h.least origin below in (own.0, together origin own.0 own.1, own.2));
  }
