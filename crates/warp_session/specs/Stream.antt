-- What a stream is, and what one read and one write do: to the bytes left or written, where they are told, and to the count
-- of failures.
use Rattle.std.specs.Prelude.{◌≡◌, ℕ, ◌+◌, ◌<◌, Option, Result, List, take, length, MatchResult, refl}
use Rattle.std.specs.Coded.{Coded, code_by, coded×, coded_ℕ}
use Rattle.std.specs.Option.{option_map}
use Rattle.std.specs.Io.KnownBytes.{Appends, Consumes, IsAtEnd, Keeps}
use Rattle.warp_tag.specs.Lists.{StartsWith}

-- a stream: the reader or writer below it, and how many of its reads or writes have failed
pub record StreamState (T : Type 0) : Type 0 where
  pub inner : T
  pub failures : ℕ

-- a stream is stored as its two parts
abbrev pub stream_code : {T : Type 0} → Coded T → Coded (StreamState T)
stream_code {T} inner =
    code_by (T × ℕ) (coded× inner coded_ℕ) (λ s. (s.inner, s.failures)) (λ p. record { inner = p.0; failures = p.1 }) (λ _. refl)

-- a source whose reads are counted: the source below, and how many reads there were
pub record CountedState (T : Type 0) : Type 0 where
  pub inner : T
  pub reads : ℕ

-- it is stored as its two parts
abbrev pub counted_code : {T : Type 0} → Coded T → Coded (CountedState T)
counted_code {T} inner =
    code_by (T × ℕ) (coded× inner coded_ℕ) (λ s. (s.inner, s.reads)) (λ p. record { inner = p.0; reads = p.1 }) (λ _. refl)

-- so many reads more than were told, if they are told
abbrev pub reads_more : ℕ → Option ℕ → Option ℕ
reads_more count told = option_map (λ reads. reads + count) told

-- at Ok n the told bytes begin with the first n of the buffer and lose them, none only at the end or with no
-- room; at Err they are as before
abbrev pub Reads : {E : Type 0} → Option (List ℕ) → Option (List ℕ) → Result ℕ E → List ℕ → Type 0
Reads left left-after r buffer =
    MatchResult r
    (λ n. Consumes left left-after (take n buffer) × (n ≡ 0 → 0 < length buffer → IsAtEnd left-after))
    (λ _. Keeps left left-after)

-- at Ok n the told bytes grow by the first n of the piece; at Err they are as before
abbrev pub Writes : {E : Type 0} → Option (List ℕ) → Option (List ℕ) → Result ℕ E → List ℕ → Type 0
Writes written written-after r piece =
    MatchResult r (λ n. Appends written written-after (take n piece)) (λ _. Keeps written written-after)

-- the count of failures grows by one at Err, and only there
abbrev pub CountsFailures : {T E : Type 0} → ℕ → ℕ → Result T E → Type 0
CountsFailures failures failures-after r =
    MatchResult r (λ _. failures-after ≡ failures) (λ _. failures-after ≡ failures + 1)

-- behind the told bytes a front of these was written, which may be none or all of them, and nothing else
abbrev pub WritesFront : Option (List ℕ) → Option (List ℕ) → List ℕ → Type 0
WritesFront written written-after bytes = (front : List ℕ) × StartsWith bytes front × Appends written written-after front
