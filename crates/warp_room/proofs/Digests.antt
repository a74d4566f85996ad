-- What is counted of a log's digest; and that logs of the same records have one digest.
use Rattle.std.proofs.Common.{◌≡◌, ℕ, zero, suc, ◌+◌, ◌-◌, ◌<◌, ◌≤◌, ◌%◌, ◌≢◌, Bool, true, false, not, List, [], ◌∷◌, ◌++◌, length, filter, get_or, take, Contains, IsTrue, Some, Result, Ok, Err, IfOk, refl, sym, ap, subst, ◌∙◌, arith, inl, inr}
use Rattle.std.specs.Prelude.{slice_get}
use Rattle.std.specs.List.{All, AllPairs, sum_by}
use Rattle.std.proofs.lemmas.Bool.{cases_Bool, not_from_false}
use Rattle.std.proofs.lemmas.List.{length-append, take-append-le}
use Rattle.std.proofs.lemmas.List.Elements.{All-contains}
use Rattle.std.proofs.lemmas.List.Filters.{sum_by-filter_both}
use Rattle.std.proofs.lemmas.List.Sums.{get_or-le-sum_by, sum_by-cons}
use Rattle.warp_record.specs.declared.record.Record.{Record}
use Rattle.warp_table.specs.Log.{EachOnce, IsAt}
use Rattle.warp_table.specs.Records.{same_record, set_of}
use Rattle.warp_table.proofs.Members.{AllPairs-first, AllPairs-tail, Contains-here, Contains-nil, Contains-there, passes_kept}
use Rattle.warp_table.proofs.Sets.{in_set, same_record-Decides}
use Rattle.warp_digest.specs.Digest.{DigestState, IsDigestOf, digest_of, number_of, numbers}
use Rattle.warp_room.specs.Digested.{IsCounted}

-- nothing is counted yet
pub counted_none : (log : List Record) (d : DigestState) → IsDigestOf [] d → IsCounted log d
counted_none log d is =
    record { within = omega (arith, is.0); is = subst (λ (l : List Record). IsDigestOf l d) (sym (ap (λ n. take n log) is.0)) is }

-- the log grew
pub counted_later : (log rest : List Record) (d : DigestState) → IsCounted log d → IsCounted (log ++ rest) d
counted_later log rest d c = record {
  within = omega (arith, c.within, length-append log rest);
  is = subst (λ (l : List Record). IsDigestOf l d) (sym (take-append-le d.count log rest c.within)) c.is;
}

-- the records of a log through one at a place, which is there
next_taken : (log : List Record) (index : ℕ) (said : Record) → slice_get log index ≡ Some said → take (index + 1) log ≡ take index log ++ said ∷ []
next_taken [] index said at = absurd (grind (at, arith))
next_taken (r ∷ log) zero said at = (let here : r ≡ said = grind (at, arith) in ap (λ x. x ∷ []) here)
next_taken (r ∷ log) (suc index) said at =
    let n : suc index + 1 ≡ suc (index + 1) = omega arith in
    ap (λ k. take k (r ∷ log)) n ∙ ap (λ l. r ∷ l) (next_taken log index said (grind (at, arith)))

below : (log : List Record) (index : ℕ) (said : Record) → slice_get log index ≡ Some said → index < length log
below [] index said at = absurd (grind (at, arith))
below (r ∷ log) zero said at = omega arith
below (r ∷ log) (suc index) said at = (let rest = below log index said (grind (at, arith)) in omega (arith, rest))

-- one more is counted
pub counted_more : (log : List Record) (said : Record) (d d' : DigestState) → IsCounted log d → IsAt log (d.count + 1) said
    → ((records : List Record) → IsDigestOf records d → IsDigestOf (records ++ said ∷ []) d') → d'.count ≡ d.count + 1 → IsCounted log d'
counted_more log said d d' c at takes one =
    let n : d.count + 1 - 1 ≡ d.count = omega arith in
    let there = ap (slice_get log) (sym n) ∙ at.1 in
    let less = below log d.count said there in record {
      within = omega (arith, less, one);
      is =
          subst (λ (l : List Record). IsDigestOf l d') (sym (ap (λ k. take k log) one ∙ next_taken log d.count said there))
          (takes (take d.count log) c.is);
    }

-- where there is no record at a place, there are no more
past : (log : List Record) (index : ℕ) → ((said : Record) → slice_get log index ≢ Some said) → length log ≤ index
past [] index none = omega arith
past (r ∷ log) zero none = absurd (none r refl)
past (r ∷ log) (suc index) none = (let rest = past log index none in omega (arith, rest))

pub none_behind : (log : List Record) (index : ℕ) → ((said : Record) → IsAt log (index + 1) said → ⊥) → length log ≤ index
none_behind log index none =
    let m : index + 1 - 1 ≡ index = omega arith in
    past log index (λ said e. none said (omega arith, ap (slice_get log) m ∙ e))

-- records that are each once in a list and all in another have no greater sum
sum_le : (f : Record → ℕ) (xs ys : List Record) → EachOnce xs → ((q : Record) → Contains xs q → Contains ys q) → sum_by f xs ≤ sum_by f ys
sum_le f [] ys once has = omega arith
sum_le f (x ∷ xs) ys once has =
    let is : Record → Bool = λ y. same_record x y in
    let isnt : Record → Bool = λ y. not (same_record x y) in
    let here = passes_kept is ys x (has x (Contains-here x xs)) ((same_record-Decides x x).1 refl) in
    let least : f x ≤ sum_by f (filter is ys) = subst (λ (z : Record). f z ≤ sum_by f (filter is ys)) here.2 (get_or-le-sum_by f (filter is ys) here.0 x here.1) in
    let other : (q : Record) → Contains xs q → IsTrue (isnt q) = λ q m. apart q (All-contains (λ b. x ≢ b) xs q (AllPairs-first (λ a b. a ≢ b) x xs once) m) in
    let rest = sum_le f xs (filter isnt ys) (AllPairs-tail (λ a b. a ≢ b) x xs once) (λ q m. passes_kept isnt ys q (has q (Contains-there x xs q m)) (other q m)) in
    omega (arith, least, rest, sum_by-cons f x xs, sum_by-filter_both is isnt (λ y. refl) f ys)
  where
    apart : (q : Record) → x ≢ q → IsTrue (not (same_record x q))
    apart q differs = elim (cases_Bool (same_record x q)) [
      | inl same ↦ absurd (differs ((same_record-Decides x q).0 same))
      | inr other ↦ not_from_false (same_record x q) other
    ]

-- logs of the same records, each once, have one digest
pub one_digest : (one other : List Record) → EachOnce one → EachOnce other → set_of one ≡ set_of other → digest_of one ≡ digest_of other
one_digest one other once once_other same =
    let there : (q : Record) → Contains one q → Contains other q = λ q m. (in_set other q).1 (subst (λ S. IsTrue (S q)) same ((in_set one q).0 m)) in
    let back : (q : Record) → Contains other q → Contains one q = λ q m. (in_set one q).1 (subst (λ S. IsTrue (S q)) (sym same) ((in_set other q).0 m)) in
    let up = sum_le number_of one other once there in
    let down = sum_le number_of other one once_other back in
    let equal : sum_by number_of one ≡ sum_by number_of other = omega (arith, up, down) in
    ap (λ n. n % numbers) equal

-- what was made is told of, whatever else is so
pub told_alone : {A E : Type 0} (result : Result A E) (P Q : A → Type 0) → IfOk result (λ a. P a × Q a) → IfOk result P
told_alone (Ok a) P Q both = both.0
told_alone (Err e) P Q both = tt
