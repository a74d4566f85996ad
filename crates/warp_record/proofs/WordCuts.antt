-- The words of a text, and the text of words.
use Rattle.std.proofs.Common.{◌≡◌, ℕ, ◌+◌, ◌-◌, ◌<◌, ◌≤◌, ◌↔◌, false, List, [], ◌∷◌, ◌++◌, length, get_or, take, drop, sym, ap, ◌∙◌, refl, arith}
use Rattle.std.specs.List.{slice_split, join_with_byte, AllByRecursion}
use Rattle.std.proofs.lemmas.List.{take-append-drop, drop_more, drop-drop, length-drop, get_or-drop}
use Rattle.std.proofs.lemmas.List.Elements.{All-more}
use Rattle.std.proofs.lemmas.List.Splits.{slice_split_at, slice_split_none, length-slice_split, join_with_byte-slice_split}
use Rattle.warp_record.specs.Number.{is_space, IsOneWord}

-- each of the words is one word
abbrev pub AreWords : List (List ℕ) → Type 0
AreWords words = AllByRecursion IsOneWord words

-- words that are joined by spaces are the words of the text
pub words_of_joined : (words : List (List ℕ)) → 0 < length words → AreWords words → slice_split is_space (join_with_byte 32 words) ≡ words
words_of_joined [] some all = absurd (omega arith)
words_of_joined (word ∷ []) some all = slice_split_none is_space word all.0
words_of_joined (word ∷ next ∷ words) some all =
    slice_split_at is_space word 32 (join_with_byte 32 (next ∷ words)) all.0 refl
    ∙ ap (λ (rest : List (List ℕ)). word ∷ rest) (words_of_joined (next ∷ words) (omega arith) all.1)

-- the words of a text, joined by spaces, are the text
pub joined_words : (bytes : List ℕ) → bytes ≡ join_with_byte 32 (slice_split is_space bytes)
joined_words bytes = sym (join_with_byte-slice_split 32 bytes)

-- a text is the joined words exactly if these are its words
pub text_of_words : (bytes : List ℕ) (words : List (List ℕ)) → 0 < length words → AreWords words
    → (bytes ≡ join_with_byte 32 words) ↔ (slice_split is_space bytes ≡ words)
text_of_words bytes words some all = (
  λ is. ap (slice_split is_space) is ∙ words_of_joined words some all,
  λ are. joined_words bytes ∙ ap (join_with_byte 32) are,
)

-- a text has a word, though it may be empty
pub some_word : (bytes : List ℕ) → 0 < length (slice_split is_space bytes)
some_word bytes = omega (arith, length-slice_split is_space bytes)

-- one more byte that is no space
pub word_goes_on : (bytes : List ℕ) (start place : ℕ) → start ≤ place → place < length bytes → is_space (get_or bytes place 0) ≡ false
    → IsOneWord (take (place - start) (drop start bytes)) → IsOneWord (take (place + 1 - start) (drop start bytes))
word_goes_on bytes start place le below other one =
    let more : place + 1 - start ≡ (place - start) + 1 = omega arith in
    let here : get_or (drop start bytes) (place - start) 0 ≡ get_or bytes place 0 =
    get_or-drop start bytes (place - start) 0 ∙ ap (λ (n : ℕ). get_or bytes n 0) (omega arith) in
    rw more
    (All-more (λ (byte : ℕ). is_space byte ≡ false) (drop start bytes) (place - start) 0
    (omega (arith, length-drop start bytes)) one (ap is_space here ∙ other))

-- a space ends a word
pub word_ends : (bytes : List ℕ) (start place : ℕ) → start ≤ place → place < length bytes → get_or bytes place 0 ≡ 32
    → IsOneWord (take (place - start) (drop start bytes))
    → slice_split is_space (drop start bytes) ≡ take (place - start) (drop start bytes) ∷ slice_split is_space (drop (place + 1) bytes)
word_ends bytes start place le below space one =
    let count : ℕ = place - start in
    let left : List ℕ = drop start bytes in
    let here : get_or left count 0 ≡ 32 =
    get_or-drop start bytes count 0 ∙ ap (λ (n : ℕ). get_or bytes n 0) (omega arith) ∙ space in
    let after : drop (count + 1) left ≡ drop (place + 1) bytes =
    drop-drop (count + 1) start bytes ∙ ap (λ (n : ℕ). drop n bytes) (omega arith) in
    let rest : drop count left ≡ 32 ∷ drop (place + 1) bytes =
    drop_more left count 0 (omega (arith, length-drop start bytes)) ∙ cc (here, after) in
    let cut : left ≡ take count left ++ 32 ∷ drop (place + 1) bytes =
    sym (take-append-drop count left) ∙ ap (λ (bytes : List ℕ). take count left ++ bytes) rest in
    ap (slice_split is_space) cut ∙ slice_split_at is_space (take count left) 32 (drop (place + 1) bytes) one refl
