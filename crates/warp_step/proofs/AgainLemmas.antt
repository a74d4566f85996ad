-- Which timers repeat after the entries at a tag came: those among the entries, in their order. And an entry that comes in later
-- than a front leaves the front.
use Rattle.std.proofs.Common.{◌≡◌, ◌≢◌, inl, inr, ℕ, ℤ, zero, suc, ◌+◌, ◌<◌, ◌≤◌, Bool, true, false, not, ◌&&◌, ◌||◌, ◌==◌, nat_lt, nat_le, IsTrue, List, [], ◌∷◌, ◌++◌, length, take, get_or, Option, None, Some, is_some, refl, sym, ap, ◌∙◌, subst, arith}
use Rattle.std.specs.Prelude.{pos, if◌then◌else◌}
use Rattle.std.specs.List.{list_all, list_any, AllByRecursion}
use Rattle.std.proofs.Common.{eq-or-lt_of_le}
use Rattle.std.proofs.lemmas.Bool.{and_from, and_parts, cases_Bool, cond-false, eqb-true, leb-true, ltb-true, or_right}
use Rattle.std.proofs.lemmas.Bool.Decides.{nat_tests}
use Rattle.std.proofs.lemmas.List.{get_or-set_other, get_or-set_same, length-set}
use Rattle.warp_tag.specs.Limits.{most_pending}
use Rattle.warp_tag.specs.Moment.{Moment, is_before, is_same}
use Rattle.warp_tag.specs.Landing.{landing}
use Rattle.warp_tag.specs.declared.tag.Landing.{Landing}
use Rattle.warp_tag.specs.declared.tag.Landing.TheVariants.{At, PastStop, PastMicro}
use Rattle.warp_body.specs.Presence.{Presence, is_target, kind_of, places_of, present_at, target_before, target_fits, with_value}
use Rattle.warp_body.specs.declared.place.Places.{Places}
use Rattle.warp_body.specs.declared.place.Target.{Target}
use Rattle.warp_body.specs.declared.place.Target.TheVariants as to
use Rattle.warp_step.specs.Program.{Program, top_of}
use Rattle.warp_step.specs.Valid.{program_places}
use Rattle.warp_step.specs.Snapshot.{Snapshot, AreInOrder, entered, entered_where, has_key, key_before, landed, with_entry}
use Rattle.warp_step.specs.Step.{absent, arrived_entries, repeats, with_repeats}
use Rattle.warp_step.specs.inner.Again.{again, again_each, period_of}
pub use Rattle.warp_step.specs.inner.Taken.{targets, with_front}
use Rattle.warp_step.specs.declared.parts.Timer.{Timer}
use Rattle.warp_step.specs.declared.pending.Waiting.{Waiting}
use Rattle.warp_step.proofs.PendingLemmas.{Above, ahead, ahead_not_at, ahead_not_before}
use Rattle.warp_step.proofs.RepeatLemmas.{absent_places}
use Rattle.warp_step.proofs.DueLemmas.{none_at}

-- one more target is again behind those before it
pub again_more : (P : Program) (t : Moment) (ws : List Waiting) (i : ℕ) (d : Waiting) (s : Snapshot) → i < length ws
    → again_each P t (targets (take (i + 1) ws)) s ≡ again P t (get_or ws i d).target (again_each P t (targets (take i ws)) s)
again_more P t [] i d s lt = absurd (omega arith)
again_more P t (w ∷ ws) zero d s lt = refl
again_more P t (w ∷ ws) (suc i) d s lt =
    let more : suc i + 1 ≡ suc (i + 1) = omega arith in
    rw more (again_more P t ws i d (again P t w.target s) (omega arith))

-- each target comes before those behind it
abbrev pub Rising : List Target → Type 0
Rising [] = Unit {0}
Rising (k ∷ ks) = AllByRecursion (λ j. IsTrue (target_before k j)) ks × Rising ks

before_at_tag : (t : Moment) (w v : Waiting) → is_same w.tag t ≡ true → is_same v.tag t ≡ true → key_before w.tag w.target v ≡ true
    → target_before w.target v.target ≡ true
before_at_tag t w v h g k = grind (arith, nat_tests)

before_all : (t : Moment) (w : Waiting) (ws : List Waiting) → is_same w.tag t ≡ true → IsTrue (list_all (λ v. is_same v.tag t) ws) → Above w.tag w.target ws
    → AllByRecursion (λ j. IsTrue (target_before w.target j)) (targets ws)
before_all t w [] here all above = tt
before_all t w (v ∷ ws) here all above =
    let both = and_parts (is_same v.tag t) (list_all (λ u. is_same u.tag t) ws) all in
    (before_at_tag t w v here both.0 above.0, before_all t w ws here both.1 above.1)

pub rising : (t : Moment) (ws : List Waiting) → AreInOrder ws → IsTrue (list_all (λ w. is_same w.tag t) ws) → Rising (targets ws)
rising t [] ordered all = tt
rising t (w ∷ ws) ordered all =
    let both = and_parts (is_same w.tag t) (list_all (λ v. is_same v.tag t) ws) all in
    (before_all t w ws both.0 both.1 ordered.0, rising t ws ordered.1 both.1)

-- timers from a number on and before another, rising, and then other targets
abbrev are_from : ℕ → ℕ → List Target → Bool
are_from from end [] = true
are_from from end (to.Startup ∷ ks) = false
are_from from end (to.Timer n ∷ ks) = nat_le from n && (nat_lt n end && are_from (n + 1) end ks)
are_from from end (to.Action n ∷ ks) = list_all (λ k. nat_lt 1 (kind_of k)) ks
are_from from end (to.Port n ∷ ks) = list_all (λ k. nat_lt 1 (kind_of k)) ks

-- what comes after a timer, after a later target, or after none but startup
after_timer : (n : ℕ) (ks : List Target) → AllByRecursion (λ j. IsTrue (target_before (to.Timer n) j)) ks
    → list_all (λ k. not (target_before k (to.Timer (n + 1)))) ks ≡ true
after_timer n [] all = refl
after_timer n (k ∷ ks) all =
    let here : target_before (to.Timer n) k ≡ true = all.0 in
    let one : not (target_before k (to.Timer (n + 1))) ≡ true = grind (arith, nat_tests) in
    and_from _ _ one (after_timer n ks all.1)

after_other : (j : Target) (ks : List Target) → 1 < kind_of j → AllByRecursion (λ k. IsTrue (target_before j k)) ks
    → list_all (λ k. nat_lt 1 (kind_of k)) ks ≡ true
after_other j [] some all = refl
after_other j (k ∷ ks) some all =
    let here : target_before j k ≡ true = all.0 in
    let one : nat_lt 1 (kind_of k) ≡ true = grind (arith, nat_tests) in
    and_from _ _ one (after_other j ks some all.1)

after_startup : (k : Target) → target_before to.Startup k ≡ true → not (target_before k (to.Timer 0)) ≡ true
after_startup to.Startup h = let no : false ≡ true = h in cc
after_startup (to.Timer n) h = grind (arith, nat_tests)
after_startup (to.Action n) h = refl
after_startup (to.Port n) h = refl

all_after_startup : (ks : List Target) → AllByRecursion (λ k. IsTrue (target_before to.Startup k)) ks → list_all (λ k. not (target_before k (to.Timer 0))) ks ≡ true
all_after_startup [] all = refl
all_after_startup (k ∷ ks) all = and_from _ _ (after_startup k all.0) (all_after_startup ks all.1)

from_rising : (places : Places) (from : ℕ) (ks : List Target) → Rising ks → IsTrue (list_all (target_fits places) ks)
    → list_all (λ k. not (target_before k (to.Timer from))) ks ≡ true → are_from from places.timers ks ≡ true
from_rising places from [] order fits past = refl
from_rising places from (to.Startup ∷ ks) order fits past =
    let no : false ≡ true = (and_parts (not (target_before to.Startup (to.Timer from))) (list_all (λ k. not (target_before k (to.Timer from))) ks) past).0 in
    cc
from_rising places from (to.Timer n ∷ ks) order fits past =
    let both = and_parts (nat_lt n places.timers) (list_all (target_fits places) ks) fits in
    let first : not (target_before (to.Timer n) (to.Timer from)) ≡ true = (and_parts (not (target_before (to.Timer n) (to.Timer from))) (list_all (λ k. not (target_before k (to.Timer from))) ks) past).0 in
    let low : nat_le from n ≡ true = grind (arith, nat_tests) in
    let rest = from_rising places (n + 1) ks order.1 both.1 (after_timer n ks order.0) in
    and_from (nat_le from n) (nat_lt n places.timers && are_from (n + 1) places.timers ks) low
    (and_from (nat_lt n places.timers) (are_from (n + 1) places.timers ks) both.0 rest)
from_rising places from (to.Action n ∷ ks) order fits past = after_other (to.Action n) ks (omega arith) order.0
from_rising places from (to.Port n ∷ ks) order fits past = after_other (to.Port n) ks (omega arith) order.0

-- no timer is among other targets, and none before a number among those from it on
none_other : (m : ℕ) (ks : List Target) → list_all (λ k. nat_lt 1 (kind_of k)) ks ≡ true → list_any (is_target (to.Timer m)) ks ≡ false
none_other m [] h = refl
none_other m (k ∷ ks) h =
    let both = and_parts (nat_lt 1 (kind_of k)) (list_all (λ j. nat_lt 1 (kind_of j)) ks) h in
    let other : is_target (to.Timer m) k ≡ false = grind (arith, nat_tests) in
    rw other (none_other m ks both.1)

none_before : (m from end : ℕ) (ks : List Target) → m < from → are_from from end ks ≡ true → list_any (is_target (to.Timer m)) ks ≡ false
none_before m from end [] lt h = refl
none_before m from end (to.Startup ∷ ks) lt h = let no : false ≡ true = h in cc
none_before m from end (to.Timer n ∷ ks) lt h =
    let one = and_parts (nat_le from n) (nat_lt n end && are_from (n + 1) end ks) h in
    let two = and_parts (nat_lt n end) (are_from (n + 1) end ks) one.1 in
    let low : from ≤ n = leb-true from n one.0 in
    let other : is_target (to.Timer m) (to.Timer n) ≡ false = grind (arith, nat_tests) in
    rw other (none_before m (n + 1) end ks (omega (arith, lt, low)) two.1)
none_before m from end (to.Action n ∷ ks) lt h = none_other m ks h
none_before m from end (to.Port n ∷ ks) lt h = none_other m ks h

-- other targets are not again
others_rest : (P : Program) (t : Moment) (ks : List Target) (s : Snapshot) → list_all (λ k. nat_lt 1 (kind_of k)) ks ≡ true → again_each P t ks s ≡ s
others_rest P t [] s h = refl
others_rest P t (to.Startup ∷ ks) s h = let no : false ≡ true = h in cc
others_rest P t (to.Timer n ∷ ks) s h = let no : false ≡ true = h in cc
others_rest P t (to.Action n ∷ ks) s h = others_rest P t ks s h
others_rest P t (to.Port n ∷ ks) s h = others_rest P t ks s h

-- from an end on, before that end, none is again
end_rest : (P : Program) (t : Moment) (from end : ℕ) (ks : List Target) (s : Snapshot) → end ≤ from → are_from from end ks ≡ true → again_each P t ks s ≡ s
end_rest P t from end [] s le h = refl
end_rest P t from end (to.Startup ∷ ks) s le h = let no : false ≡ true = h in cc
end_rest P t from end (to.Timer n ∷ ks) s le h =
    let one = and_parts (nat_le from n) (nat_lt n end && are_from (n + 1) end ks) h in
    let two = and_parts (nat_lt n end) (are_from (n + 1) end ks) one.1 in
    absurd (let low : from ≤ n = leb-true from n one.0 in let high : n < end = ltb-true n end two.0 in omega (arith, low, high, le))
end_rest P t from end (to.Action n ∷ ks) s le h = others_rest P t ks s h
end_rest P t from end (to.Port n ∷ ks) s le h = others_rest P t ks s h

abbrev no_timer : Timer
no_timer = record { reactor = 0; offset = 0; period = 0 }

-- the timers from a number on repeat as the targets among which they are present
module _ (P : Program) (t : Moment) (present : Presence) where
  -- what tells of these timers and targets
  record Told (number : ℕ) (ts : List Timer) (end : ℕ) (ks : List Target) : Type 0 where
    ends : end ≡ number + length ts
    own : (k m : ℕ) → m ≡ number + k → k < length ts → get_or P.timers m no_timer ≡ get_or ts k no_timer
    from : are_from number end ks ≡ true
    there : (m : ℕ) → number ≤ m → is_some (present_at present (to.Timer m)) ≡ list_any (is_target (to.Timer m)) ks

  -- a timer that is not among the targets
  passed : (number : ℕ) (timer : Timer) (ts : List Timer) (end : ℕ) (ks : List Target) (s : Snapshot) → Told number (timer ∷ ts) end ks → are_from (number + 1) end ks ≡ true
      → (Told (number + 1) ts end ks → with_repeats P t present (number + 1) ts s ≡ again_each P t ks s)
      → with_repeats P t present number (timer ∷ ts) s ≡ again_each P t ks s
  passed number timer ts end ks s told from next =
      let none : list_any (is_target (to.Timer number)) ks ≡ false = none_before number (number + 1) end ks (omega arith) from in
      let rests : repeats present number timer ≡ false = ap (λ (b : Bool). b && nat_lt 0 timer.period) (told.there number (omega arith) ∙ none) in
      ap (λ (u : Snapshot). with_repeats P t present (number + 1) ts u)
      (cond-false (repeats present number timer) (landed P t timer.period (to.Timer number) (pos 0) s) s rests)
      ∙ next (record {
        ends = omega (arith, told.ends);
        own = λ k m is lt. told.own (suc k) m (omega (arith, is)) (omega (arith, lt));
        from = from;
        there = λ m le. told.there m (omega (arith, le));
      })

  repeated : (number : ℕ) (ts : List Timer) (end : ℕ) (ks : List Target) (s : Snapshot) → Told number ts end ks
      → with_repeats P t present number ts s ≡ again_each P t ks s
  repeated number [] end ks s told = sym (end_rest P t number end ks s (omega (arith, told.ends)) told.from)
  repeated number (timer ∷ ts) end [] s told = passed number timer ts end [] s told refl (λ next. repeated (number + 1) ts end [] s next)
  repeated number (timer ∷ ts) end (to.Startup ∷ ks) s told = let no : false ≡ true = told.from in cc
  repeated number (timer ∷ ts) end (to.Action n ∷ ks) s told =
      passed number timer ts end (to.Action n ∷ ks) s told told.from (λ next. repeated (number + 1) ts end (to.Action n ∷ ks) s next)
  repeated number (timer ∷ ts) end (to.Port n ∷ ks) s told =
      passed number timer ts end (to.Port n ∷ ks) s told told.from (λ next. repeated (number + 1) ts end (to.Port n ∷ ks) s next)
  repeated number (timer ∷ ts) end (to.Timer n ∷ ks) s told =
      let one = and_parts (nat_le number n) (nat_lt n end && are_from (n + 1) end ks) told.from in
      let two = and_parts (nat_lt n end) (are_from (n + 1) end ks) one.1 in
      elim (eq-or-lt_of_le (leb-true number n one.0)) [
        | inl same ↦
            let there : list_any (is_target (to.Timer number)) (to.Timer n ∷ ks) ≡ true = grind (arith, nat_tests) in
            let is : get_or P.timers n no_timer ≡ timer = told.own 0 n (omega (arith, same)) (omega arith) in
            let does : repeats present number timer ≡ nat_lt 0 timer.period = ap (λ (b : Bool). b && nat_lt 0 timer.period) (told.there number (omega arith) ∙ there) in
            let here : (if repeats present number timer then landed P t timer.period (to.Timer number) (pos 0) s else s) ≡ again P t (to.Timer n) s =
            ap (λ (b : Bool). if b then landed P t timer.period (to.Timer number) (pos 0) s else s) does
            ∙ (λ i. if nat_lt 0 (sym is i).period then landed P t (sym is i).period (to.Timer (same i)) (pos 0) s else s) in
            ap (λ (u : Snapshot). with_repeats P t present (number + 1) ts u) here
            ∙ repeated (number + 1) ts end ks (again P t (to.Timer n) s) (record {
              ends = omega (arith, told.ends);
              own = λ k m at lt. told.own (suc k) m (omega (arith, at)) (omega (arith, lt));
              from = subst (λ (k : ℕ). are_from (k + 1) end ks ≡ true) (sym same) two.1;
              there = λ m le.
                  let other : is_target (to.Timer m) (to.Timer n) ≡ false = grind (arith, nat_tests) in
                  told.there m (omega (arith, le)) ∙ ap (λ (b : Bool). b || list_any (is_target (to.Timer m)) ks) other;
            })
        | inr more ↦
            passed number timer ts end (to.Timer n ∷ ks) s told
            (and_from (nat_le (number + 1) n) (nat_lt n end && are_from (n + 1) end ks) (grind (arith, nat_tests)) one.1)
            (λ next. repeated (number + 1) ts end (to.Timer n ∷ ks) s next)
      ]

-- whether a timer is present when one more target is
or_false : (b : Bool) → b ≡ (b || false)
or_false true = refl
or_false false = refl

or_assoc : (a b c : Bool) → ((a || b) || c) ≡ (a || (b || c))
or_assoc true b c = refl
or_assoc false b c = refl

timer_with : (k : Target) (v : ℤ) (p : Presence) (m : ℕ) → IsTrue (target_fits (places_of p) k)
    → is_some (present_at (with_value k v p) (to.Timer m)) ≡ (is_some (present_at p (to.Timer m)) || is_target (to.Timer m) k)
timer_with to.Startup v p m fits = or_false (is_some (present_at p (to.Timer m)))
timer_with (to.Action n) v p m fits = or_false (is_some (present_at p (to.Timer m)))
timer_with (to.Port n) v p m fits = or_false (is_some (present_at p (to.Timer m)))
timer_with (to.Timer n) v p m fits = elim (cases_Bool (m == n)) [
  | inl same ↦
      let is : m ≡ n = eqb-true m n same in
      let lt : n < length p.timers = ltb-true n (length p.timers) fits in
      let own : present_at (with_value (to.Timer n) v p) (to.Timer m) ≡ Some v =
      ap (λ (j : ℕ). present_at (with_value (to.Timer n) v p) (to.Timer j)) is ∙ get_or-set_same p.timers n (Some v) None lt in
      let it : is_target (to.Timer m) (to.Timer n) ≡ true = grind (arith, nat_tests) in
      ap is_some own ∙ sym (or_right (is_some (present_at p (to.Timer m))) (is_target (to.Timer m) (to.Timer n)) it)
  | inr other ↦
      let apart : m ≢ n = grind (arith, nat_tests) in
      let differ : is_target (to.Timer m) (to.Timer n) ≡ false = grind (arith, nat_tests) in
      let kept : present_at (with_value (to.Timer n) v p) (to.Timer m) ≡ present_at p (to.Timer m) =
      get_or-set_other p.timers n m (Some v) None apart in
      ap is_some kept ∙ or_false (is_some (present_at p (to.Timer m))) ∙ ap (λ (b : Bool). is_some (present_at p (to.Timer m)) || b) (sym differ)
]

same_places : (k : Target) (v : ℤ) (p : Presence) → places_of (with_value k v p) ≡ places_of p
same_places to.Startup v p = refl
same_places (to.Timer n) v p = λ i. record { timers = length-set p.timers n (Some v) i; actions = length p.actions; ports = length p.ports }
same_places (to.Action n) v p = λ i. record { timers = length p.timers; actions = length-set p.actions n (Some v) i; ports = length p.ports }
same_places (to.Port n) v p = λ i. record { timers = length p.timers; actions = length p.actions; ports = length-set p.ports n (Some v) i }

-- and when all of them are
timers_with : (ws : List Waiting) (p : Presence) (m : ℕ) → IsTrue (list_all (λ w. target_fits (places_of p) w.target) ws)
    → is_some (present_at (arrived_entries ws p) (to.Timer m)) ≡ (is_some (present_at p (to.Timer m)) || list_any (is_target (to.Timer m)) (targets ws))
timers_with [] p m fits = or_false (is_some (present_at p (to.Timer m)))
timers_with (w ∷ ws) p m fits =
    let both = and_parts (target_fits (places_of p) w.target) (list_all (λ v. target_fits (places_of p) v.target) ws) fits in
    let next = with_value w.target w.value p in
    let rest : IsTrue (list_all (λ v. target_fits (places_of next) v.target) ws) =
    subst (λ (places : Places). IsTrue (list_all (λ v. target_fits places v.target) ws)) (sym (same_places w.target w.value p)) both.1 in
    timers_with ws next m rest
    ∙ ap (λ (b : Bool). b || list_any (is_target (to.Timer m)) (targets ws)) (timer_with w.target w.value p m both.0)
    ∙ or_assoc (is_some (present_at p (to.Timer m))) (is_target (to.Timer m) w.target) (list_any (is_target (to.Timer m)) (targets ws))

fit_map : (places : Places) (ws : List Waiting) → IsTrue (list_all (λ w. target_fits places w.target) ws) → IsTrue (list_all (target_fits places) (targets ws))
fit_map places [] fits = refl
fit_map places (w ∷ ws) fits =
    let both = and_parts (target_fits places w.target) (list_all (λ v. target_fits places v.target) ws) fits in
    and_from (target_fits places w.target) (list_all (target_fits places) (targets ws)) both.0 (fit_map places ws both.1)

-- all targets behind one that is not startup are not before the first timer
behind_first : (j : Target) (ks : List Target) → 0 < kind_of j → AllByRecursion (λ k. IsTrue (target_before j k)) ks
    → list_all (λ k. not (target_before k (to.Timer 0))) (j ∷ ks) ≡ true
behind_first j [] some all =
    let one : not (target_before j (to.Timer 0)) ≡ true = grind (arith, nat_tests) in
    and_from _ _ one refl
behind_first j (k ∷ ks) some all =
    let one : not (target_before j (to.Timer 0)) ≡ true = grind (arith, nat_tests) in
    let here : target_before j k ≡ true = all.0 in
    let two : not (target_before k (to.Timer 0)) ≡ true = grind (arith, nat_tests) in
    and_from _ _ one (and_from _ _ two (and_parts (not (target_before j (to.Timer 0))) (list_all (λ i. not (target_before i (to.Timer 0))) ks) (behind_first j ks some all.1)).1)

from_first : (P : Program) (t : Moment) (present : Presence) (ks : List Target) (s : Snapshot) → IsTrue (list_all (target_fits (program_places P)) ks) → Rising ks
    → list_all (λ k. not (target_before k (to.Timer 0))) ks ≡ true
    → ((m : ℕ) → is_some (present_at present (to.Timer m)) ≡ list_any (is_target (to.Timer m)) ks)
    → with_repeats P t present 0 P.timers s ≡ again_each P t ks s
from_first P t present ks s fits order past told =
    repeated P t present 0 P.timers (length P.timers) ks s (record {
      ends = omega arith;
      own = λ k m is lt. ap (λ (j : ℕ). get_or P.timers j no_timer) (omega (arith, is));
      from = from_rising (program_places P) 0 ks order fits past;
      there = λ m le. told m;
    })

of_targets : (P : Program) (t : Moment) (present : Presence) (ks : List Target) (s : Snapshot) → IsTrue (list_all (target_fits (program_places P)) ks) → Rising ks
    → ((m : ℕ) → is_some (present_at present (to.Timer m)) ≡ list_any (is_target (to.Timer m)) ks)
    → with_repeats P t present 0 P.timers s ≡ again_each P t ks s
of_targets P t present [] s fits order told = from_first P t present [] s fits order refl told
of_targets P t present (to.Startup ∷ ks) s fits order told =
    from_first P t present ks s (and_parts true (list_all (target_fits (program_places P)) ks) fits).1 order.1 (all_after_startup ks order.0) told
of_targets P t present (to.Timer n ∷ ks) s fits order told = from_first P t present (to.Timer n ∷ ks) s fits order (behind_first (to.Timer n) ks (omega arith) order.0) told
of_targets P t present (to.Action n ∷ ks) s fits order told = from_first P t present (to.Action n ∷ ks) s fits order (behind_first (to.Action n) ks (omega arith) order.0) told
of_targets P t present (to.Port n ∷ ks) s fits order told = from_first P t present (to.Port n ∷ ks) s fits order (behind_first (to.Port n) ks (omega arith) order.0) told

-- where the entries at a tag alone are present, the timers that repeat are those among them
pub repeats_are : (P : Program) (t : Moment) (ws : List Waiting) (s : Snapshot) → AreInOrder ws → IsTrue (list_all (λ w. is_same w.tag t) ws)
    → IsTrue (list_all (λ w. target_fits (program_places P) w.target) ws)
    → with_repeats P t (arrived_entries ws (absent P t)) 0 P.timers s ≡ again_each P t (targets ws) s
repeats_are P t ws s ordered here fits =
    let own : IsTrue (list_all (λ w. target_fits (places_of (absent P t)) w.target) ws) =
    subst (λ (places : Places). IsTrue (list_all (λ w. target_fits places w.target) ws)) (sym (absent_places P t)) fits in
    of_targets P t (arrived_entries ws (absent P t)) (targets ws) s (fit_map (program_places P) ws fits) (rising t ws ordered here)
    (λ m. timers_with ws (absent P t) m own
    ∙ ap (λ (o : Option ℤ). is_some o || list_any (is_target (to.Timer m)) (targets ws)) (none_at (length P.timers) m))

-- where one target alone is present, it is again alone
pub alone_again : (P : Program) (t : Moment) (k : Target) (v : ℤ) (s : Snapshot) → IsTrue (target_fits (program_places P) k)
    → with_repeats P t (with_value k v (absent P t)) 0 P.timers s ≡ again P t k s
alone_again P t k v s fits =
    let own : IsTrue (target_fits (places_of (absent P t)) k) = subst (λ (places : Places). IsTrue (target_fits places k)) (sym (absent_places P t)) fits in
    of_targets P t (with_value k v (absent P t)) (k ∷ []) s (and_from (target_fits (program_places P) k) true fits refl) (tt, tt)
    (λ m. timer_with k v (absent P t) m own
    ∙ ap (λ (o : Option ℤ). is_some o || is_target (to.Timer m) k) (none_at (length P.timers) m)
    ∙ or_false (is_target (to.Timer m) k))

-- a landing is later than the tag from which it lands
abbrev IsLater : Moment → Landing → Type 0
IsLater t (At u) = is_before t u ≡ true
IsLater t PastStop = Unit {0}
IsLater t PastMicro = Unit {0}

lands_later : (stop top : ℕ) (t : Moment) (delay : ℕ) → IsLater t (landing stop top t delay)
lands_later stop top t delay = elim (cases_Bool (delay == 0)) [
  | inl now ↦ elim (cases_Bool (nat_le (t.microstep + 1) top)) [
    | inl room ↦ let later : is_before t (record { time = t.time; microstep = t.microstep + 1 }) ≡ true = grind (arith, nat_tests) in rw now (rw room later)
    | inr past ↦ rw now (rw past tt)
  ]
  | inr later ↦ elim (cases_Bool (nat_le (t.time + delay) stop)) [
    | inl room ↦ let after : is_before t (record { time = t.time + delay; microstep = 0 }) ≡ true = grind (arith, nat_tests) in rw later (rw room after)
    | inr past ↦ rw later (rw past tt)
  ]
]

-- an entry that comes in later than a front leaves the front
ahead_of : (t u : Moment) (k : Target) (w : Waiting) → is_same w.tag t ≡ true → is_before t u ≡ true → ahead u k w ≡ true
ahead_of t u k w here later = grind (arith, nat_tests)

entry_behind : (t u : Moment) (k : Target) (v : ℤ) (front ws : List Waiting) → IsTrue (list_all (λ w. is_same w.tag t) front) → is_before t u ≡ true
    → with_entry u k v (front ++ ws) ≡ front ++ with_entry u k v ws
entry_behind t u k v [] ws here later = refl
entry_behind t u k v (w ∷ front) ws here later =
    let both = and_parts (is_same w.tag t) (list_all (λ x. is_same x.tag t) front) here in
    let a : ahead u k w ≡ true = ahead_of t u k w both.0 later in
    let rest = entry_behind t u k v front ws both.1 later in
    rw (ahead_not_before u k w a, ahead_not_at u k w a) (ap (λ (xs : List Waiting). w ∷ xs) rest)

fewer : (front ws : List Waiting) → nat_lt (length (front ++ ws)) most_pending ≡ true → nat_lt (length ws) most_pending ≡ true
fewer [] ws h = h
fewer (w ∷ front) ws h = fewer front ws (grind (arith, nat_tests))

entered_behind : (t u : Moment) (k : Target) (v : ℤ) (front : List Waiting) (s : Snapshot) → IsTrue (list_all (λ w. is_same w.tag t) front) → is_before t u ≡ true
    → nat_lt (length (front ++ s.pending)) most_pending ≡ true → entered u k v (with_front front s) ≡ with_front front (entered u k v s)
entered_behind t u k v front s here later room =
    let all = or_right (list_any (has_key u k) (front ++ s.pending)) (nat_lt (length (front ++ s.pending)) most_pending) room in
    let some = or_right (list_any (has_key u k) s.pending) (nat_lt (length s.pending) most_pending) (fewer front s.pending room) in
    rw (all, some) (ap (λ (xs : List Waiting). record s { pending = xs }) (entry_behind t u k v front s.pending here later))

where_behind : (t : Moment) (at : Landing) (k : Target) (v : ℤ) (front : List Waiting) (s : Snapshot) → IsTrue (list_all (λ w. is_same w.tag t) front) → IsLater t at
    → nat_lt (length (front ++ s.pending)) most_pending ≡ true → entered_where at k v (with_front front s) ≡ with_front front (entered_where at k v s)
where_behind t (At u) k v front s here later room = entered_behind t u k v front s here later room
where_behind t PastStop k v front s here later room = refl
where_behind t PastMicro k v front s here later room = refl

landed_behind : (P : Program) (t : Moment) (delay : ℕ) (k : Target) (v : ℤ) (front : List Waiting) (s : Snapshot) → IsTrue (list_all (λ w. is_same w.tag t) front)
    → nat_lt (length (front ++ s.pending)) most_pending ≡ true → landed P t delay k v (with_front front s) ≡ with_front front (landed P t delay k v s)
landed_behind P t delay k v front s here room = where_behind t (landing P.stop (top_of P) t delay) k v front s here (lands_later P.stop (top_of P) t delay) room

if_behind : (b : Bool) (front : List Waiting) (s u v : Snapshot) → u ≡ with_front front v → (if b then u else with_front front s) ≡ with_front front (if b then v else s)
if_behind true front s u v is = is
if_behind false front s u v is = refl

-- and so does a timer that is again
pub again_behind : (P : Program) (t : Moment) (k : Target) (front : List Waiting) (s : Snapshot) → IsTrue (list_all (λ w. is_same w.tag t) front)
    → nat_lt (length (front ++ s.pending)) most_pending ≡ true → again P t k (with_front front s) ≡ with_front front (again P t k s)
again_behind P t to.Startup front s here room = refl
again_behind P t (to.Timer n) front s here room =
    if_behind (nat_lt 0 (period_of P n)) front s (landed P t (period_of P n) (to.Timer n) (pos 0) (with_front front s)) (landed P t (period_of P n) (to.Timer n) (pos 0) s)
    (landed_behind P t (period_of P n) (to.Timer n) (pos 0) front s here room)
again_behind P t (to.Action n) front s here room = refl
again_behind P t (to.Port n) front s here room = refl
