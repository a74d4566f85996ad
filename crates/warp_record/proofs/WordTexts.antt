-- The texts of the words in a slice, by how many these are; and words that are keywords.
use Rattle.std.proofs.Common.{◌≡◌, ◌↔◌, ℕ, ◌-◌, ◌<◌, ◌≤◌, Bool, true, false, ◌||◌, List, [], ◌∷◌, length, get_or, take, drop, map, Bor, ap, sym, ◌∙◌, refl, arith}
use Rattle.std.specs.Str.{bytes_eq}
use Rattle.std.proofs.lemmas.Bool.Decides.{same_from_decides}
use Rattle.std.proofs.lemmas.List.{length-map, take_all}
use Rattle.std.proofs.lemmas.Slice.Eq.{bytes_eq-Decides}

-- the texts of words
abbrev pub texts : List (Bor (List ℕ)) → List (List ℕ)
texts words = map (λ (word : Bor (List ℕ)). word.now) words

-- the text of the word at a place
abbrev pub text_at : List (Bor (List ℕ)) → ℕ → List ℕ
text_at words place = (get_or words place (record { ref_ptr = (0, 0); now = [] })).now

-- so many words as one list of their texts has
pub as_many : (words : List (Bor (List ℕ))) (others : List (List ℕ)) → texts words ≡ others → length words ≡ length others
as_many words others are = sym (length-map words (λ (word : Bor (List ℕ)). word.now)) ∙ ap length are

pub one_text : (words : List (Bor (List ℕ))) → 1 ≤ length words → length words < 2 → texts words ≡ text_at words 0 ∷ []
one_text [] some few = absurd (omega (arith, some))
one_text (a ∷ []) some few = refl
one_text (a ∷ b ∷ words) some few = absurd (omega (arith, few))

pub two_texts : (words : List (Bor (List ℕ))) → 2 ≤ length words → length words < 3
    → texts words ≡ text_at words 0 ∷ text_at words 1 ∷ []
two_texts [] some few = absurd (omega (arith, some))
two_texts (a ∷ []) some few = absurd (omega (arith, some))
two_texts (a ∷ b ∷ []) some few = refl
two_texts (a ∷ b ∷ c ∷ words) some few = absurd (omega (arith, few))

pub three_texts : (words : List (Bor (List ℕ))) → 3 ≤ length words → length words < 4
    → texts words ≡ text_at words 0 ∷ text_at words 1 ∷ text_at words 2 ∷ []
three_texts [] some few = absurd (omega (arith, some))
three_texts (a ∷ []) some few = absurd (omega (arith, some))
three_texts (a ∷ b ∷ []) some few = absurd (omega (arith, some))
three_texts (a ∷ b ∷ c ∷ []) some few = refl
three_texts (a ∷ b ∷ c ∷ d ∷ words) some few = absurd (omega (arith, few))

pub four_texts : (words : List (Bor (List ℕ))) → 4 ≤ length words → length words < 5
    → texts words ≡ text_at words 0 ∷ text_at words 1 ∷ text_at words 2 ∷ text_at words 3 ∷ []
four_texts [] some few = absurd (omega (arith, some))
four_texts (a ∷ []) some few = absurd (omega (arith, some))
four_texts (a ∷ b ∷ []) some few = absurd (omega (arith, some))
four_texts (a ∷ b ∷ c ∷ []) some few = absurd (omega (arith, some))
four_texts (a ∷ b ∷ c ∷ d ∷ []) some few = refl
four_texts (a ∷ b ∷ c ∷ d ∷ e ∷ words) some few = absurd (omega (arith, few))

-- one word and the others
pub first_text : (words : List (Bor (List ℕ))) → 1 ≤ length words
    → texts words ≡ text_at words 0 ∷ texts (take (length words - 1) (drop 1 words))
first_text [] some = absurd (omega (arith, some))
first_text (a ∷ words) some = ap (λ (l : List (Bor (List ℕ))). a.now ∷ texts l) (sym (take_all _ words (omega arith)))

-- four words and the others
pub four_first : (words : List (Bor (List ℕ))) → 4 ≤ length words
    → texts words ≡ text_at words 0 ∷ text_at words 1 ∷ text_at words 2 ∷ text_at words 3 ∷ texts (take (length words - 4) (drop 4 words))
four_first [] some = absurd (omega (arith, some))
four_first (a ∷ []) some = absurd (omega (arith, some))
four_first (a ∷ b ∷ []) some = absurd (omega (arith, some))
four_first (a ∷ b ∷ c ∷ []) some = absurd (omega (arith, some))
four_first (a ∷ b ∷ c ∷ d ∷ words) some =
    ap (λ (l : List (Bor (List ℕ))). a.now ∷ b.now ∷ c.now ∷ d.now ∷ texts l) (sym (take_all _ words (omega arith)))

-- what the test for a keyword has told
pub is_not : (word key : List ℕ) (r : Bool) → ((r ≡ true) ↔ (word ≡ key)) → r ≡ false → bytes_eq word key ≡ false
is_not word key r tells isnt = same_from_decides (bytes_eq word key) r (bytes_eq-Decides word key) tells ∙ isnt

-- the word is one of these
abbrev pub is_one : List ℕ → List (List ℕ) → Bool
is_one word [] = false
is_one word (key ∷ keys) = bytes_eq word key || is_one word keys
