-- Pieces of a log.
use Rattle.std.proofs.Common.{◌≡◌, ◌≢◌, ℕ, zero, suc, ◌+◌, ◌-◌, ◌<◌, ◌≤◌, List, [], ◌∷◌, ◌++◌, length, take, drop, min, Some, refl, sym, ap, ◌∙◌, arith}
use Rattle.std.specs.Prelude.{slice_get}
use Rattle.warp_record.specs.declared.record.Record.{Record}
use Rattle.warp_table.specs.Log.{IsAt}

-- what was handed of a log, and a piece of the log that goes on from it
pub once : (log more : List Record) (count most : ℕ) → count ≤ length log
    → take count log ++ take most (drop count (log ++ more)) ≡ take (count + most) (log ++ more)
once log more zero most short = ap (λ n. take n (log ++ more)) (omega arith)
once [] more (suc count) most short = absurd (omega (arith, short))
once (r ∷ log) more (suc count) most short =
    let e : suc (count + most) ≡ suc count + most = omega arith in
    ap (λ l. r ∷ l) (once log more count most (omega (arith, short))) ∙ ap (λ n. take n (r ∷ (log ++ more))) e

-- the record at an index, and what is left behind it
next_at : (log : List Record) (index : ℕ) (said : Record) → slice_get log index ≡ Some said → drop index log ≡ said ∷ drop (index + 1) log
next_at [] index said e = absurd (grind (e, arith))
next_at (r ∷ log) zero said e = (let here : r ≡ said = grind (e, arith) in ap (λ x. x ∷ log) here)
next_at (r ∷ log) (suc index) said e =
    let n : suc index + 1 ≡ suc (index + 1) = omega arith in
    next_at log index said (grind (e, arith)) ∙ ap (λ k. said ∷ drop k (r ∷ log)) (sym n)

pub piece_more : (log : List Record) (index end : ℕ) (said : Record) → index < end → IsAt log (index + 1) said
    → take (end - index) (drop index log) ≡ said ∷ take (end - (index + 1)) (drop (index + 1) log)
piece_more log index end said less at =
    let n : index + 1 - 1 ≡ index = omega arith in
    let next = next_at log index said (ap (slice_get log) (sym n) ∙ at.1) in
    let m : end - index ≡ suc (end - (index + 1)) = omega (arith, less) in
    ap (λ k. take k (drop index log)) m ∙ ap (λ l. take (suc (end - (index + 1))) l) next

abbrev nothing : List Record
nothing = []

take_nothing : (n : ℕ) → take n nothing ≡ nothing
take_nothing zero = refl
take_nothing (suc n) = refl

drop_nothing : (n : ℕ) → drop n nothing ≡ nothing
drop_nothing zero = refl
drop_nothing (suc n) = refl

-- where there is no record at an index, none is left
none_left : (log : List Record) (index : ℕ) → ((said : Record) → slice_get log index ≢ Some said) → drop index log ≡ []
none_left [] index none = drop_nothing index
none_left (r ∷ log) zero none = absurd (none r refl)
none_left (r ∷ log) (suc index) none = none_left log index none

pub piece_none : (log : List Record) (index n : ℕ) → ((said : Record) → IsAt log (index + 1) said → ⊥) → take n (drop index log) ≡ []
piece_none log index n none =
    let m : index + 1 - 1 ≡ index = omega arith in
    ap (take n) (none_left log index (λ said e. none said (omega arith, ap (slice_get log) m ∙ e))) ∙ take_nothing n

-- so many, or all where there are fewer
take_least : (n : ℕ) (log : List Record) → take (min (length log) n) log ≡ take n log
take_least zero log = (let e : min (length log) zero ≡ zero = omega arith in ap (λ k. take k log) e)
take_least (suc n) [] = (let e : min (length nothing) (suc n) ≡ zero = omega arith in ap (λ k. take k nothing) e)
take_least (suc n) (r ∷ log) =
    let m : min (length (r ∷ log)) (suc n) ≡ suc (min (length log) n) = omega arith in
    ap (λ k. take k (r ∷ log)) m ∙ ap (λ l. r ∷ l) (take_least n log)

length_left : (n : ℕ) (log : List Record) → length (drop n log) ≡ length log - n
length_left zero log = omega arith
length_left (suc n) [] = omega arith
length_left (suc n) (r ∷ log) = (let rest = length_left n log in omega (arith, rest))

pub piece_whole : (log : List Record) (count most left : ℕ) → left ≡ min (length log - count) most → take left (drop count log) ≡ take most (drop count log)
piece_whole log count most left e =
    ap (λ k. take k (drop count log)) (e ∙ ap (λ n. min n most) (sym (length_left count log))) ∙ take_least most (drop count log)
