-- The order of records: by tag, then by origin, then by what else they say. Two records are equal in it where they are one.
use Rattle.std.proofs.Common.{refl, ap, subst, rules}
use Rattle.std.proofs.lemmas.Map.Lookups.{exact_signed, exact_unsigned}
use Rattle.std.specs.Prelude.{◌≡◌, ℕ, ℤ, pos, true}
use Rattle.std.specs.Bool.{Decides, one_answer}
use Rattle.std.specs.Cmp.{Equal-is, IsPartialOrder, IsTotalOrder, int_cmp_total, nat_cmp_total, on_total, po, then_total, tied_itself}
use Rattle.std.specs.Cmp.Rules.{comparing}
use Rattle.std.specs.Option.{unwrap_or}
use Rattle.std.specs.Ordering.{as_partial_cmp, int_cmp, is_eq, nat_cmp, on, ordering_then, then_cmp}
use Rattle.std.specs.declared.cmp.Ordering.{Ordering}
use Rattle.std.specs.declared.cmp.Ordering.TheVariants.{Less, Equal, Greater}
use Rattle.warp_record.specs.declared.record.Record.{Record}
use Rattle.warp_record.specs.declared.record.Record.TheVariants.{Event, Withdraw, Announce, Joint}
use Rattle.warp_record.specs.contracts.record.RecordPartialEq.TheImpl.{eq-value}
use Rattle.warp_record.specs.Record.{origin_of, tag_of}

-- whose it is, where it is one origin's, and else 0: its kind tells that one apart
abbrev pub origin_or_first : Record → ℕ
origin_or_first said = unwrap_or (origin_of said) 0

-- which kind of record it is
abbrev pub kind_of : Record → ℕ
kind_of (Event origin tag input value) = 0
kind_of (Withdraw origin tag) = 1
kind_of (Announce origin tag events withdrawn) = 2
kind_of (Joint tag events withdrawn) = 3

-- the first number behind its tag
abbrev pub first_of : Record → ℕ
first_of (Event origin tag input value) = input
first_of (Withdraw origin tag) = 0
first_of (Announce origin tag events withdrawn) = events
first_of (Joint tag events withdrawn) = events

-- and the second one
abbrev pub second_of : Record → ℤ
second_of (Event origin tag input value) = value
second_of (Withdraw origin tag) = pos 0
second_of (Announce origin tag events withdrawn) = pos withdrawn
second_of (Joint tag events withdrawn) = pos withdrawn

-- the order of records of one tag
abbrev pub cmp_at_tag : Record → Record → Ordering
cmp_at_tag =
    then_cmp (on origin_or_first nat_cmp) (then_cmp (on kind_of nat_cmp) (then_cmp (on first_of nat_cmp) (on second_of int_cmp)))

-- the order of records
abbrev pub record_cmp : Record → Record → Ordering
record_cmp =
    then_cmp (on (λ said. (tag_of said).time) nat_cmp) (then_cmp (on (λ said. (tag_of said).microstep) nat_cmp) cmp_at_tag)

-- What the order owes: it is total

pub record_total : IsTotalOrder record_cmp
record_total =
    then_total (on_total (λ said. (tag_of said).time) nat_cmp_total)
    (then_total (on_total (λ said. (tag_of said).microstep) nat_cmp_total)
    (then_total (on_total origin_or_first nat_cmp_total)
    (then_total (on_total kind_of nat_cmp_total)
    (then_total (on_total first_of nat_cmp_total) (on_total second_of int_cmp_total)))))

-- two orders in turn tell nothing apart where neither does
both_equal : (r s : Ordering) → ordering_then r s ≡ Equal → (r ≡ Equal) × (s ≡ Equal)
both_equal Less s e = cc
both_equal Equal s e = (refl, e)
both_equal Greater s e = cc

-- where it tells two apart nowhere they are one record
one_by_cmp : (a b : Record) → record_cmp a b ≡ Equal → a ≡ b
one_by_cmp a b e =
    let time = both_equal _ _ e in
    let microstep = both_equal _ _ time.1 in
    let origin = both_equal _ _ microstep.1 in
    let kind = both_equal _ _ origin.1 in
    let numbers = both_equal _ _ kind.1 in
    by a b (exact_unsigned _ _ time.0) (exact_unsigned _ _ microstep.0) (exact_unsigned _ _ origin.0) (exact_unsigned _ _ kind.0)
    (exact_unsigned _ _ numbers.0) (exact_signed _ _ numbers.1)
  where
    by : (a b : Record) → (tag_of a).time ≡ (tag_of b).time → (tag_of a).microstep ≡ (tag_of b).microstep → origin_or_first a ≡ origin_or_first b →
        kind_of a ≡ kind_of b → first_of a ≡ first_of b → second_of a ≡ second_of b → a ≡ b
    by (Event o t input value) (Event p s other_input other_value) time microstep origin kind first second =
        λ i. Event (origin i) (record { time = time i; microstep = microstep i }) (first i) (second i)
    by (Withdraw o t) (Withdraw p s) time microstep origin kind first second =
        λ i. Withdraw (origin i) (record { time = time i; microstep = microstep i })
    by (Announce o t events withdrawn) (Announce p s other_events other_withdrawn) time microstep origin kind first second =
        let count : withdrawn ≡ other_withdrawn = cc in
        λ i. Announce (origin i) (record { time = time i; microstep = microstep i }) (first i) (count i)
    by (Joint t events withdrawn) (Joint s other_events other_withdrawn) time microstep origin kind first second =
        let count : withdrawn ≡ other_withdrawn = cc in
        λ i. Joint (record { time = time i; microstep = microstep i }) (first i) (count i)
    by (Event o t input value) (Withdraw p s) time microstep origin kind first second = cc
    by (Event o t input value) (Announce p s events withdrawn) time microstep origin kind first second = cc
    by (Withdraw o t) (Event p s input value) time microstep origin kind first second = cc
    by (Withdraw o t) (Announce p s events withdrawn) time microstep origin kind first second = cc
    by (Announce o t events withdrawn) (Event p s input value) time microstep origin kind first second = cc
    by (Announce o t events withdrawn) (Withdraw p s) time microstep origin kind first second = cc
    by (Event o t input value) (Joint s events withdrawn) time microstep origin kind first second = cc
    by (Withdraw o t) (Joint s events withdrawn) time microstep origin kind first second = cc
    by (Announce o t events withdrawn) (Joint s other_events other_withdrawn) time microstep origin kind first second = cc
    by (Joint t events withdrawn) (Event p s input value) time microstep origin kind first second = cc
    by (Joint t events withdrawn) (Withdraw p s) time microstep origin kind first second = cc
    by (Joint t events withdrawn) (Announce p s other_events other_withdrawn) time microstep origin kind first second = cc

-- it tells apart what is not one record
pub cmp-Decides : (a b : Record) → Decides (is_eq (record_cmp a b)) (a ≡ b)
cmp-Decides a b = (
  λ h. one_by_cmp a b ((Equal-is (record_cmp a b)).0 h),
  λ e. subst (λ (x : Record). is_eq (record_cmp a x) ≡ true) e (ap is_eq (tied_itself record_total a)),
)

-- and so does `==`
equal_is : (a b : Record) → (eq-value).it a b ≡ true → a ≡ b
equal_is a b h = search (comparing, rules)

equal_self : (a : Record) → (eq-value).it a a ≡ true
equal_self a = search (comparing, rules)

pub same_by_cmp : (a b : Record) → (eq-value).it a b ≡ is_eq (record_cmp a b)
same_by_cmp a b = one_answer ((eq-value).it a b) (is_eq (record_cmp a b)) (equal_is a b, λ e. subst (λ (x : Record). (eq-value).it a x ≡ true) e (equal_self a)) (cmp-Decides a b)

-- so it is a partial order, too
pub record_partial : IsPartialOrder (eq-value).it (as_partial_cmp record_cmp)
record_partial = po record_total same_by_cmp
