-- Where each link without delay leads to a later reactor, reactions may run in the order of the file.
use Rattle.std.proofs.Common.{◌≡◌, inl, inr, ℕ, zero, suc, ◌+◌, ◌<◌, ◌≤◌, Bool, true, false, not, ◌&&◌, ◌||◌, ◌==◌, nat_lt, nat_le, List, [], ◌∷◌, ◌++◌, length, map, Option, Some, None, is_none, IsTrue, refl, sym, ap, ◌∙◌, subst, arith}
use Rattle.std.specs.Prelude.{slice_get}
use Rattle.std.specs.Option.{IfSome, option_map_or}
use Rattle.std.specs.List.{list_all, list_any, range_with_len}
use Rattle.std.proofs.lemmas.Bool.{cases_Bool, and_parts, and_from, and_right, eq-eqb, eqb-true, leb-true, ltb-true, le-ltb, lt-ltb, ne_eqb, not_from_false, not_from_true, or_cases, or_from}
use Rattle.std.proofs.lemmas.List.FromFn.{length-range_with_len}
use Rattle.warp_body.specs.declared.place.Target.TheVariants as to
use Rattle.warp_step.specs.Order.{feeds, file_order, is_admissible, joins, keeps_before, leads_later, precedes}
use Rattle.warp_step.specs.Program.{Program, Rule}
use Rattle.warp_step.specs.Valid.{is_distinct, is_readable, is_rising, is_writable, names, reactor_of, rule_fits}
use Rattle.warp_step.specs.declared.parts.Link.{Link}
use Rattle.warp_step.specs.declared.parts.Port.{Port}
use Rattle.warp_step.proofs.RuleNames.{one_of_all, rule_reads, rule_writes}
use Rattle.warp_step.proofs.OnceLists.{occurs}
use Rattle.warp_step.proofs.ValidLemmas.{named_passes}

-- a port of a reactor is of that one
reactor_is : (o : Option Port) (kind : Port → Bool) (reactor : ℕ) → IsTrue (option_map_or (λ p. kind p && p.reactor == reactor) o false)
    → option_map_or (λ p. p.reactor) o 0 ≡ reactor
reactor_is None kind reactor h = let no : false ≡ true = h in cc
reactor_is (Some p) kind reactor h = eqb-true p.reactor reactor (and_parts (kind p) (p.reactor == reactor) h).1

-- a rule of a reactor that stands no earlier does not feed the other
module _ (P : Program) (a b : Rule) (fits : IsTrue (rule_fits P a)) (fit : IsTrue (rule_fits P b)) (order : b.reactor ≤ a.reactor) where
  not_joined : (l : Link) → IsTrue (leads_later P l) → joins a b l ≡ true → ⊥
  not_joined l later joined =
      let outer = and_parts (is_none l.delay && names a.writes (to.Port l.source)) (names (b.triggers ++ b.reads) (to.Port l.target)) joined in
      let inner = and_parts (is_none l.delay) (names a.writes (to.Port l.source)) outer.0 in
      let writes : IsTrue (is_writable P a.reactor (to.Port l.source)) =
      named_passes (is_writable P a.reactor) a.writes (to.Port l.source) (rule_writes P a fits) inner.1 in
      let reads : IsTrue (is_readable P b.reactor (to.Port l.target)) =
      named_passes (is_readable P b.reactor) (b.triggers ++ b.reads) (to.Port l.target) (rule_reads P b fit) outer.1 in
      let from : reactor_of P l.source ≡ a.reactor = reactor_is (slice_get P.ports l.source) (λ p. not p.is_input) a.reactor writes in
      let onto : reactor_of P l.target ≡ b.reactor = reactor_is (slice_get P.ports l.target) (λ p. p.is_input) b.reactor reads in
      elim (or_cases (not (is_none l.delay)) (nat_lt (reactor_of P l.source) (reactor_of P l.target)) later) [
        | inl delayed ↦ let no : false ≡ true = sym (not_from_true (is_none l.delay) inner.0) ∙ delayed in cc
        | inr on ↦
            let lt : reactor_of P l.source < reactor_of P l.target = ltb-true _ _ on in
            absurd (omega (arith, lt, from, onto, order))
      ]

  not_fed : (links : List Link) → IsTrue (list_all (leads_later P) links) → list_any (joins a b) links ≡ false
  not_fed [] later = refl
  not_fed (l ∷ ls) later =
      let both = and_parts (leads_later P l) (list_all (leads_later P) ls) later in
      let none : joins a b l ≡ false = elim (cases_Bool (joins a b l)) [
        | inl joined ↦ absurd (not_joined l both.0 joined)
        | inr apart ↦ apart
      ] in
      or_from (joins a b l) (list_any (joins a b) ls) none (not_fed ls both.1)

-- what rises does not fall
none_less : (r : Rule) (xs : List Rule) (m : ℕ) (a : Rule) → IsTrue (list_all (λ j. nat_le r.reactor j) (map (λ x. x.reactor) xs)) → slice_get xs m ≡ Some a
    → r.reactor ≤ a.reactor
none_less r [] m a all at = let no : None ≡ Some a = at in cc
none_less r (x ∷ xs) zero a all at =
    let some : Some x ≡ Some a = at in
    let same : x ≡ a = cc in
    let one = leb-true _ _ (and_parts (nat_le r.reactor x.reactor) (list_all (λ j. nat_le r.reactor j) (map (λ y. y.reactor) xs)) all).0 in
    subst (λ (y : Rule). r.reactor ≤ y.reactor) same one
none_less r (x ∷ xs) (suc m) a all at = none_less r xs m a (and_parts (nat_le r.reactor x.reactor) (list_all (λ j. nat_le r.reactor j) (map (λ y. y.reactor) xs)) all).1 at

rising_at : (xs : List Rule) (n m : ℕ) (a b : Rule) → IsTrue (is_rising (map (λ x. x.reactor) xs)) → n ≤ m → slice_get xs m ≡ Some a → slice_get xs n ≡ Some b
    → b.reactor ≤ a.reactor
rising_at [] n m a b rising le at there = let no : None ≡ Some a = at in cc
rising_at (x ∷ xs) zero zero a b rising le at there =
    let one : Some x ≡ Some a = at in
    let two : Some x ≡ Some b = there in
    let same : b ≡ a = cc in
    let equal = ap (λ (r : Rule). r.reactor) same in
    omega (arith, equal)
rising_at (x ∷ xs) (suc n) zero a b rising le at there = absurd (omega (arith, le))
rising_at (x ∷ xs) zero (suc m) a b rising le at there =
    let both = and_parts (list_all (λ j. nat_le x.reactor j) (map (λ y. y.reactor) xs)) (is_rising (map (λ y. y.reactor) xs)) rising in
    let two : Some x ≡ Some b = there in
    let same : x ≡ b = cc in
    subst (λ (y : Rule). y.reactor ≤ a.reactor) same (none_less x xs m a both.0 at)
rising_at (x ∷ xs) (suc n) (suc m) a b rising le at there =
    let both = and_parts (list_all (λ j. nat_le x.reactor j) (map (λ y. y.reactor) xs)) (is_rising (map (λ y. y.reactor) xs)) rising in
    rising_at xs n m a b both.1 (omega (arith, le)) at there

-- consecutive numbers: they are distinct, and below the last
past_range : (n first count : ℕ) → n < first → occurs n (range_with_len first count) ≡ false
past_range n first zero lt = refl
past_range n first (suc count) lt =
    or_from (first == n) (occurs n (range_with_len (first + 1) count)) (ne_eqb first n (λ same. omega (arith, lt, same))) (past_range n (first + 1) count (omega (arith, lt)))

range_once : (first count : ℕ) → IsTrue (is_distinct (range_with_len first count))
range_once first zero = refl
range_once first (suc count) =
    and_from (not (occurs first (range_with_len (first + 1) count))) (is_distinct (range_with_len (first + 1) count))
    (not_from_false (occurs first (range_with_len (first + 1) count)) (past_range first (first + 1) count (omega arith))) (range_once (first + 1) count)

range_below : (first count limit : ℕ) → first + count ≤ limit → IsTrue (list_all (λ n. nat_lt n limit) (range_with_len first count))
range_below first zero limit le = refl
range_below first (suc count) limit le =
    and_from (nat_lt first limit) (list_all (λ n. nat_lt n limit) (range_with_len (first + 1) count)) (lt-ltb first limit (omega (arith, le)))
    (range_below (first + 1) count limit (omega (arith, le)))

module _ (P : Program) (fits : IsTrue (list_all (rule_fits P) P.reactions)) (rising : IsTrue (is_rising (map (λ r. r.reactor) P.reactions)))
    (later : IsTrue (list_all (leads_later P) P.links)) where
  -- no reaction precedes an earlier one, or itself
  free_at : (m n : ℕ) (o u : Option Rule) → n ≤ m → slice_get P.reactions m ≡ o → slice_get P.reactions n ≡ u
      → IfSome o (λ r. IsTrue (rule_fits P r)) → IfSome u (λ r. IsTrue (rule_fits P r))
      → option_map_or (λ a. option_map_or (λ b. (a.reactor == b.reactor && nat_lt m n) || feeds P a b) u false) o false ≡ false
  free_at m n None u le at there fit_a fit_b = refl
  free_at m n (Some a) None le at there fit_a fit_b = refl
  free_at m n (Some a) (Some b) le at there fit_a fit_b =
      or_from (a.reactor == b.reactor && nat_lt m n) (feeds P a b) (and_right (a.reactor == b.reactor) (nat_lt m n) (le-ltb m n le))
      (not_fed P a b fit_a fit_b (rising_at P.reactions n m a b rising le at there) P.links later)

  free : (m n : ℕ) → n ≤ m → precedes P m n ≡ false
  free m n le =
      free_at m n (slice_get P.reactions m) (slice_get P.reactions n) le refl refl
      (one_of_all (rule_fits P) P.reactions m fits) (one_of_all (rule_fits P) P.reactions n fits)

  all_free : (n first count : ℕ) → n ≤ first → IsTrue (list_all (λ m. not (precedes P m n)) (range_with_len first count))
  all_free n first zero le = refl
  all_free n first (suc count) le =
      and_from (not (precedes P first n)) (list_all (λ m. not (precedes P m n)) (range_with_len (first + 1) count)) (not_from_false (precedes P first n) (free first n le))
      (all_free n (first + 1) count (omega (arith, le)))

  range_keeps : (first count : ℕ) → IsTrue (keeps_before P (range_with_len first count))
  range_keeps first zero = refl
  range_keeps first (suc count) =
      and_from (list_all (λ m. not (precedes P m first)) (range_with_len first (suc count))) (keeps_before P (range_with_len (first + 1) count))
      (all_free first first (suc count) (omega arith)) (range_keeps (first + 1) count)

  pub file_order_admissible : IsTrue (is_admissible P (file_order P))
  file_order_admissible =
      let count = length P.reactions in
      and_from _ _
      (and_from _ _ (and_from _ _ (eq-eqb (length (file_order P)) count (length-range_with_len 0 count)) (range_once 0 count)) (range_below 0 count count (omega arith)))
      (range_keeps 0 count)
