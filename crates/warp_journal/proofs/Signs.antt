-- Whether a text has an equals sign, where the first is known.
use Rattle.std.proofs.Common.{◌≡◌, ◌<◌, ◌==◌, ◌||◌, ℕ, zero, suc, Bool, true, false, List, [], ◌∷◌, length, get_or, Some, None, ap, ◌∙◌, refl, arith}
use Rattle.memchr.specs.Find.{IsFirstByte, is_byte}
use Rattle.warp_journal.specs.Reading.{has_equals}

fails : (b : Bool) → (b ≡ true → ⊥) → b ≡ false
fails true passed = absurd (passed refl)
fails false passed = refl

-- either is true where the second is
pub or_true : (b : Bool) → (b || true) ≡ true
or_true true = refl
or_true false = refl

none_at : (text : List ℕ) → ((k : ℕ) → k < length text → (get_or text k 0 == 61) ≡ false) → has_equals text ≡ false
unfolding has_equals
none_at [] none = refl
none_at (byte ∷ text) none =
    ap (λ (b : Bool). b || has_equals text) (none 0 (omega arith)) ∙ none_at text (λ k below. none (suc k) (omega (arith, below)))

some_at : (text : List ℕ) (at : ℕ) → at < length text → (get_or text at 0 == 61) ≡ true → has_equals text ≡ true
unfolding has_equals
some_at [] at high is = absurd (omega (arith, high))
some_at (byte ∷ text) zero high is = ap (λ (b : Bool). b || has_equals text) is
some_at (byte ∷ text) (suc at) high is =
    ap (λ (b : Bool). (byte == 61) || b) (some_at text at (omega (arith, high)) is) ∙ or_true (byte == 61)

-- none was found
pub has_none : (text : List ℕ) → IsFirstByte (is_byte 61) text None → has_equals text ≡ false
has_none text none = none_at text (λ k below. fails (get_or text k 0 == 61) (none k (omega arith) below))

-- one was found
pub has_some : (text : List ℕ) (at : ℕ) → IsFirstByte (is_byte 61) text (Some at) → has_equals text ≡ true
has_some text at found = some_at text at found.0.high found.1
