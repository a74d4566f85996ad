-- The first open tag, the first free microstep, and that these make the stamp.
use Rattle.std.proofs.Common.{◌≡◌, inl, inr, ℕ, ◌+◌, ◌<◌, ◌≤◌, Bool, true, false, Option, Some, None, IsTrue, nat_lt, is_some, not, if◌then◌else◌, refl, sym, ap, subst, ◌∙◌, arith}
use Rattle.std.specs.Prelude.{◌↔◌, SomeIff, MatchOption}
use Rattle.std.proofs.lemmas.Bool.{both_ways, cases_Bool, false_from_ne_true, ltb-false, ltb-true}
use Rattle.std.proofs.lemmas.Bool.Decides.{nat_tests}
use Rattle.warp_tag.specs.Limits.{last_time, widest}
use Rattle.warp_tag.specs.Moment.{IsInRange, Moment, is_before}
use Rattle.warp_tag.specs.declared.entry.Entry.{Entry}
use Rattle.warp_table.specs.Closed.{ClosesAt}
use Rattle.warp_table.specs.Horizons.{later}
use Rattle.warp_table.specs.Names.{Tells}
use Rattle.warp_table.specs.Records.{Records}
use Rattle.warp_keep.specs.Stamps.{IsFirstFree, IsFirstOpen, IsFree, IsOpenTag, IsStamp}
use Rattle.warp_keep.proofs.Closed.{closed_by_greatest}

behind_both : (t a b : Moment) → is_before t (later a b) ≡ false → (is_before t a ≡ false) × (is_before t b ≡ false)
behind_both t a b h = elim (cases_Bool (is_before a b)) [
  | inl order ↦ (let k : is_before t b ≡ false = subst (λ (x : Bool). is_before t (if x then b else a) ≡ false) order h in (behind_chain t b a k order, k))
  | inr order ↦ (let k : is_before t a ≡ false = subst (λ (x : Bool). is_before t (if x then b else a) ≡ false) order h in (k, behind_more t a b k order))
]
  where
    behind_chain : (t u v : Moment) → is_before t u ≡ false → is_before v u ≡ true → is_before t v ≡ false
    behind_chain t u v h k = grind (arith, nat_tests)

    behind_more : (t u v : Moment) → is_before t u ≡ false → is_before u v ≡ false → is_before t v ≡ false
    behind_more t u v h k = grind (arith, nat_tests)

not_behind : (t a b : Moment) → is_before t a ≡ false → is_before t b ≡ false → is_before t (later a b) ≡ false
not_behind t a b h k = elim (cases_Bool (is_before a b)) [
  | inl order ↦ subst (λ (x : Bool). is_before t (if x then b else a) ≡ false) (sym order) k
  | inr order ↦ subst (λ (x : Bool). is_before t (if x then b else a) ≡ false) (sym order) h
]

not_before_self : (t : Moment) → is_before t t ≡ false
not_before_self t = grind (arith, nat_tests)

not_before_time : (t u : Moment) → is_before t u ≡ false → u.time ≤ t.time
not_before_time t u h = grind (arith, nat_tests)

not_before_microstep : (t u : Moment) → is_before t u ≡ false → t.time ≡ u.time → u.microstep ≤ t.microstep
not_before_microstep t u h e = grind (arith, nat_tests)

before_microstep : (t u : Moment) → is_before t u ≡ true → u.time ≤ t.time → (t.time ≡ u.time) × (t.microstep < u.microstep)
before_microstep t u h e = (same t u h e, less t u h e)
  where
    same : (t u : Moment) → is_before t u ≡ true → u.time ≤ t.time → t.time ≡ u.time
    same t u h e = grind (arith, nat_tests)

    less : (t u : Moment) → is_before t u ≡ true → u.time ≤ t.time → t.microstep < u.microstep
    less t u h e = grind (arith, nat_tests)

later_microstep : (t u : Moment) → t.time ≡ u.time → u.microstep ≤ t.microstep → is_before t u ≡ false
later_microstep t u e h = grind (arith, nat_tests)

closed_sooner : (t u v : Moment) → is_before u t ≡ false → is_before u v ≡ true → is_before t v ≡ true
closed_sooner t u v h k = grind (arith, nat_tests)

asked_sooner : (t u v : Moment) → is_before t u ≡ false → is_before u v ≡ false → is_before t v ≡ false
asked_sooner t u v h k = grind (arith, nat_tests)

-- behind a tag that has none of the first so many microsteps comes the next time
next_time : (room : ℕ) (t u : Moment) → is_before t u ≡ false → room ≤ u.microstep → t.microstep < room → u.time + 1 ≤ t.time
next_time room t u h far near = grind (arith, nat_tests)

not_before_past : (t u : Moment) → u.time + 1 ≤ t.time → is_before t u ≡ false
not_before_past t u h = grind (arith, nat_tests)

not_before_start : (t : Moment) (time : ℕ) → time ≤ t.time → is_before t (record { time = time; microstep = 0 }) ≡ false
not_before_start t time h = grind (arith, nat_tests)

module _ (room : ℕ) (S : Records) (origin : ℕ) (asked closed : Moment) (closes : ClosesAt S origin closed) where
  -- a tag is open where it is not before the later one of what is asked and what is closed
  opens : (tag : Moment) → is_before tag (later asked closed) ≡ false → tag.microstep < room → tag.time ≤ last_time widest → IsOpenTag room S origin asked tag
  opens tag behind microstep time =
      let both = behind_both tag asked closed behind in
      record {
        not_closed = λ shut. both_ways (is_before tag closed) both.1 ((closed_by_greatest S origin closed tag closes).0 shut);
        asked_for = both.0;
        microstep = microstep;
        time = time;
      }

  -- and each open one is not before it
  behind_it : (tag : Moment) → IsOpenTag room S origin asked tag → is_before tag (later asked closed) ≡ false
  behind_it tag is_open =
      not_behind tag asked closed is_open.asked_for (false_from_ne_true (is_before tag closed) (λ before. is_open.not_closed ((closed_by_greatest S origin closed tag closes).1 before)))

  module _ (from : Moment) (is : from ≡ later asked closed) where
    opens_here : (tag : Moment) → is_before tag from ≡ false → tag.microstep < room → tag.time ≤ last_time widest → IsOpenTag room S origin asked tag
    opens_here tag behind = opens tag (subst (λ (t : Moment). is_before tag t ≡ false) is behind)

    behind_here : (tag : Moment) → IsOpenTag room S origin asked tag → is_before tag from ≡ false
    behind_here tag is_open = subst (λ (t : Moment). is_before tag t ≡ false) (sym is) (behind_it tag is_open)

    pub first_here : from.microstep < room → from.time ≤ last_time widest → IsFirstOpen room S origin asked (Some from)
    first_here microstep time = (opens_here from (not_before_self from) microstep time, behind_here)

    pub first_next : (found : Option Moment) (time : ℕ) → time ≡ from.time → 0 < room → room ≤ from.microstep →
        SomeIff found (IsInRange (record { time = time + 1; microstep = 0 })) (record { time = time + 1; microstep = 0 }) → IsFirstOpen room S origin asked found
    first_next None time e some far h = λ other is_open.
        let beyond = next_time room other from (behind_here other is_open) far is_open.microstep in
        let last = is_open.time in
        h (record { time = omega (arith, beyond, last, e); microstep = omega arith })
    first_next (Some tag) time e some far h = (
      subst (λ (t : Moment). IsOpenTag room S origin asked t) (sym h.1) (opens_here (record { time = time + 1; microstep = 0 }) (not_before_past (record { time = time + 1; microstep = 0 }) from (omega (arith, e))) some h.0.time),
      λ other is_open. subst (λ (t : Moment). is_before other t ≡ false) (sym h.1) (let beyond = next_time room other from (behind_here other is_open) far is_open.microstep in not_before_start other (time + 1) (omega (arith, beyond, e))),
    )

pub none_open : (S : Records) (origin : ℕ) (asked : Moment) (room : ℕ) → room ≡ 0 → IsFirstOpen room S origin asked None
none_open S origin asked room none = λ other is_open. (let few = is_open.microstep in omega (arith, few, none))

-- a name is free of which nothing is told
pub told_free : (S : Records) (origin : ℕ) (tag : Moment) (found : Option Entry) (free : Bool) → is_some found ≡ not free → Tells S origin tag found → IsTrue free ↔ IsFree S origin tag
told_free S origin tag None true e told = (λ h. told, λ h. refl)
told_free S origin tag None false e told = absurd cc
told_free S origin tag (Some entry) true e told = absurd cc
told_free S origin tag (Some entry) false e told = (λ h. absurd cc, λ h. absurd (h told.some.0 told.some.1 told.some.2))

-- what was looked at is not free
pub one_more_taken : (S : Records) (origin time from micro : ℕ) (tag : Moment) → tag ≡ record { time = time; microstep = micro } → (IsFree S origin tag → ⊥) →
    ((k : ℕ) → from ≤ k → k < micro → IsFree S origin (record { time = time; microstep = k }) → ⊥) → (k : ℕ) → from ≤ k → k < micro + 1 → IsFree S origin (record { time = time; microstep = k }) → ⊥
one_more_taken S origin time from micro tag is taken below k after before free = elim (cases_Bool (nat_lt k micro)) [
  | inl less ↦ below k after (ltb-true k micro less) free
  | inr other ↦
      let far = ltb-false k micro other in
      let same : k ≡ micro = omega (arith, far, before) in
      taken (subst (λ (t : Moment). IsFree S origin t) (sym is) (subst (λ (n : ℕ). IsFree S origin (record { time = time; microstep = n })) same free))
]

pub found_free : (room : ℕ) (S : Records) (origin : ℕ) (from : Moment) (time micro : ℕ) (tag : Moment) → tag ≡ record { time = time; microstep = micro } → time ≡ from.time → from.microstep ≤ micro → micro < room → IsFree S origin tag →
    ((k : ℕ) → from.microstep ≤ k → k < micro → IsFree S origin (record { time = from.time; microstep = k }) → ⊥) → IsFirstFree room S origin from (Some tag)
found_free room S origin from time micro tag is same after within free below =
    let at : tag.microstep ≡ micro = ap (λ (t : Moment). t.microstep) is in (
      ap (λ (t : Moment). t.time) is ∙ same,
      omega (arith, at, after),
      omega (arith, at, within),
      free,
      λ k later before. below k later (omega (arith, before, at)),
    )

-- the first free microstep of the first open time is the stamp
module _ (room : ℕ) (S : Records) (origin : ℕ) (asked from : Moment) (first : IsFirstOpen room S origin asked (Some from)) where
  named : (other : Moment) → other.time ≡ from.time → IsFree S origin other → IsFree S origin (record { time = from.time; microstep = other.microstep })
  named other e free =
      let same : other ≡ record { time = from.time; microstep = other.microstep } = (λ i. record { time = e i; microstep = other.microstep }) in
      subst (λ (t : Moment). IsFree S origin t) same free

  pub stamped : (tag : Moment) → IsFirstFree room S origin from (Some tag) → IsStamp room S origin asked tag
  stamped tag h = record {
    is_open = here;
    is_free = h.3;
    first = λ other is_open free. false_from_ne_true (is_before other tag) (λ before.
        let behind = first.1 other is_open in
        let no_sooner = not_before_time other from behind in
        let at = before_microstep other tag before (omega (arith, no_sooner, h.0)) in
        let time : other.time ≡ from.time = omega (arith, at.0, h.0) in
        h.4 other.microstep (not_before_microstep other from behind time) at.1 (named other time free));
    near = λ other is_open. (let no_sooner = not_before_time other from (first.1 other is_open) in omega (arith, no_sooner, h.0));
  }
    where
      time_fits : (t : Moment) → t.time ≡ from.time → t.time ≤ last_time widest
      time_fits t e = (let fits = first.0.time in omega (arith, fits, e))

      -- what is not before an open tag is not closed either
      not_sooner : is_before tag from ≡ false
      not_sooner = later_microstep tag from h.0 h.1

      here : IsOpenTag room S origin asked tag
      here = record {
        not_closed = λ shut. first.0.not_closed (shut.0, shut.1, closed_sooner from tag shut.0 not_sooner shut.2);
        asked_for = asked_sooner tag from asked not_sooner first.0.asked_for;
        microstep = h.2;
        time = time_fits tag h.0;
      }

  pub crowded : IsFirstFree room S origin from None → (tag : Moment) → IsStamp room S origin asked tag → ⊥
  crowded h tag stamp =
      let behind = first.1 tag stamp.is_open in
      let no_sooner = not_before_time tag from behind in
      let no_later = stamp.near from first.0 in
      let time : tag.time ≡ from.time = omega (arith, no_sooner, no_later) in
      h tag.microstep (not_before_microstep tag from behind time) stamp.is_open.microstep (named tag time stamp.is_free)

pub answered : (room : ℕ) (S : Records) (origin : ℕ) (asked from : Moment) (found : Option Moment) → IsFirstOpen room S origin asked (Some from) → IsFirstFree room S origin from found →
    MatchOption found ((tag : Moment) → IsStamp room S origin asked tag → ⊥) (IsStamp room S origin asked)
answered room S origin asked from None first h = crowded room S origin asked from first h
answered room S origin asked from (Some tag) first h = stamped room S origin asked from first tag h
