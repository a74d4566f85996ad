-- Lines that stand in front of longer texts.
use Rattle.std.proofs.Common.{◌≡◌, ℕ, ◌+◌, ◌-◌, ◌<◌, ◌≤◌, ◌^◌, suc, inl, inr, Option, Some, None, IfSome, List, [], ◌∷◌, ◌++◌, length, get_or, take, drop, codes, decimal, sym, ap, ◌∙◌, refl, arith, length-append, length-drop, take-append-drop}
use Rattle.std.specs.Char.{digit_value}
use Rattle.std.specs.List.{before_first}
use Rattle.std.specs.Str.Parse.{AllDigits, digits_value}
use Rattle.std.proofs.lemmas.List.{drop-drop, drop_more, length-take}
use Rattle.std.proofs.Math.Seq.{take-append_seam}
use Rattle.std.proofs.lemmas.Bool.{cases_lt}
use Rattle.warp_tag.specs.Limits.{last_microstep, longest_line, most_origins, most_records}
use Rattle.warp_tag.specs.declared.form.Form.{Form}
use Rattle.warp_tag.specs.declared.form.Form.TheVariants.{One, Two, Three, Four}
use Rattle.warp_record.specs.declared.line.Line.{Line}
use Rattle.warp_record.specs.Line.{IsLine, line_words, spelling}
use Rattle.warp_record.specs.Lines.{IsOneLine, first_end, is_end}
use Rattle.warp_record.proofs.Numerals.{text_of_digits}
use Rattle.warp_record.proofs.PlainWords.{joined_if_plain, plain_line}
use Rattle.warp_record.proofs.Wider.{line_widens}
use Rattle.warp_record.proofs.WordFronts.{one_digit_value}

-- one byte more in front of what is left
pub byte_more : (bytes tail : List ℕ) (i b : ℕ) → i < length bytes → get_or bytes i 0 ≡ b → drop (i + 1) bytes ≡ tail → drop i bytes ≡ b ∷ tail
byte_more bytes tail i b below is rest =
    drop_more bytes i 0 below ∙ ap (λ (n : ℕ). n ∷ drop (i + 1) bytes) is ∙ ap (λ (l : List ℕ). b ∷ l) rest

-- a digit is the text of its value
pub digit_text : (b : ℕ) → digit_value b < 10 → decimal (digit_value b) ≡ b ∷ []
digit_text b digit = sym (one_digit_value (b ∷ 32 ∷ []) (omega arith) digit)

-- a space at a place
pub space_more : (bytes : List ℕ) (place next : ℕ) → next ≡ place + 1 → place < length bytes → get_or bytes place 0 ≡ 32
    → drop place bytes ≡ 32 ∷ drop next bytes
space_more bytes place next is below space =
    byte_more bytes (drop next bytes) place 32 below space (ap (λ (n : ℕ). drop n bytes) (sym is))

-- a space and a digit at a place
pub digit_at_place : (bytes : List ℕ) (place : ℕ) → place + 2 ≤ length bytes → get_or bytes place 0 ≡ 32
    → digit_value (get_or bytes (place + 1) 0) < 10
    → drop place bytes ≡ 32 ∷ decimal (digit_value (get_or bytes (place + 1) 0)) ++ drop (place + 2) bytes
digit_at_place bytes place long space digit =
    let after : drop (place + 1 + 1) bytes ≡ drop (place + 2) bytes = ap (λ (n : ℕ). drop n bytes) (omega arith) in
    byte_more bytes _ place 32 (omega (arith, long)) space
    (byte_more bytes _ (place + 1) (get_or bytes (place + 1) 0) (omega (arith, long)) refl after)
    ∙ ap (λ (l : List ℕ). 32 ∷ l ++ drop (place + 2) bytes) (sym (digit_text (get_or bytes (place + 1) 0) digit))

-- some digits at the front of what stands at a place
pub digits_at_place : (bytes text : List ℕ) (place count value : ℕ) → text ≡ drop place bytes → 0 < count → count ≤ length text
    → AllDigits 10 (take count text) → digits_value 10 (take count text) ≡ value → value < 2 ^ 64
    → (1 < length (take count text) → get_or (take count text) 0 0 ≡ 48 → ⊥)
    → drop place bytes ≡ decimal value ++ drop (place + count) bytes
digits_at_place bytes text place count value there some long all is fits unpadded =
    let word : List ℕ = take count text in
    let size : length word ≡ count = omega (arith, length-take count text, long) in
    let one : get_or word 0 0 ≡ 48 → length word ≡ 1 = λ first.
    elim (cases_lt 1 (length word)) [
      | inl more ↦ absurd (unpadded more first)
      | inr short ↦ omega (arith, short, size, some)
    ] in
    let digits : word ≡ decimal value = rw is at (text_of_digits word all (omega (arith, size, some)) one (omega (arith, is, fits))) in
    let rest : drop count text ≡ drop (place + count) bytes = ap (drop count) there ∙ drop-drop count place bytes in
    sym there ∙ sym (take-append-drop count text)
    ∙ ap (λ (l : List ℕ). l ++ drop count text) digits
    ∙ ap (λ (l : List ℕ). decimal value ++ l) rest

-- a query for a variable of one digit in front
pub var_front : (bytes : List ℕ) → 6 ≤ length bytes → get_or bytes 0 0 ≡ 118 → get_or bytes 1 0 ≡ 97 → get_or bytes 2 0 ≡ 114
    → get_or bytes 3 0 ≡ 32 → digit_value (get_or bytes 4 0) < 10 → get_or bytes 5 0 ≡ 10
    → bytes ≡ codes "var" ++ 32 ∷ decimal (digit_value (get_or bytes 4 0)) ++ 10 ∷ drop 6 bytes
var_front bytes long b0 b1 b2 b3 digit b5 =
    byte_more bytes _ 0 118 (omega (arith, long)) b0 (byte_more bytes _ 1 97 (omega (arith, long)) b1
    (byte_more bytes _ 2 114 (omega (arith, long)) b2 (byte_more bytes _ 3 32 (omega (arith, long)) b3
    (byte_more bytes _ 4 (get_or bytes 4 0) (omega (arith, long)) refl (byte_more bytes _ 5 10 (omega (arith, long)) b5 refl)))))
    ∙ ap (λ (l : List ℕ). codes "var" ++ 32 ∷ l ++ 10 ∷ drop 6 bytes) (sym (digit_text (get_or bytes 4 0) digit))

-- a text and a line feed in front: there the first line feed is
pub end_behind : (text rest : List ℕ) → IsOneLine text → first_end (text ++ 10 ∷ rest) ≡ length text
end_behind [] rest one = refl
end_behind (byte ∷ text) rest one =
    let later = end_behind text rest (λ k d below. one (suc k) d (omega (arith, below))) in
    rw (one 0 0 (omega arith)) (omega (arith, later))

-- what a line in range in front says of the first line feed
pub line_front : (f : Form) (line : Line) (bytes rest : List ℕ) → IsLine f line → bytes ≡ spelling line ++ 10 ∷ rest
    → (before_first is_end bytes ≡ spelling line) × (first_end bytes ≡ length (spelling line))
line_front f line bytes rest fits is =
    let one : IsOneLine (spelling line) = joined_if_plain (line_words line) (plain_line line (line_widens f line fits)) in
    let end : first_end bytes ≡ length (spelling line) = ap first_end is ∙ end_behind (spelling line) rest one in
    (ap (λ (n : ℕ). take n bytes) end ∙ ap (take (length (spelling line))) is ∙ take-append_seam (spelling line) (10 ∷ rest), end)

-- the same of what was read there, if anything was
pub line_fronts : (f : Form) (bytes : List ℕ) (taken : Option (Line × ℕ)) → 64 ≤ length bytes
    → IfSome taken (λ t. IsLine f t.0 × (t.1 ≤ 64) × (bytes ≡ spelling t.0 ++ 10 ∷ drop t.1 bytes))
    → IfSome taken (λ t. IsLine f t.0 × (before_first is_end bytes ≡ spelling t.0) × (t.1 ≡ first_end bytes + 1)
    × (first_end bytes < length bytes) × (first_end bytes ≤ longest_line))
line_fronts f bytes None long taken = tt
line_fronts f bytes (Some t) long taken =
    let rest : List ℕ = drop t.1 bytes in
    let front = line_front f t.0 bytes rest taken.0 taken.2 in
    let size : length bytes ≡ length (spelling t.0) + (1 + length rest) =
    omega (arith, ap length taken.2, length-append (spelling t.0) (10 ∷ rest)) in
    let left : length rest ≡ length bytes - t.1 = length-drop t.1 bytes in (
      taken.0,
      front.0,
      omega (arith, front.1, size, left, long, taken.1),
      omega (arith, front.1, size),
      omega (arith, front.1, size, left, long, taken.1),
    )

-- small numbers are in range in any form
pub small_origin : (f : Form) (n : ℕ) → n < 10 → n < most_origins f
small_origin One n small = omega (arith, small)
small_origin Two n small = omega (arith, small)
small_origin Three n small = omega (arith, small)
small_origin Four n small = omega (arith, small)

pub small_microstep : (f : Form) (n : ℕ) → n < 10 → n ≤ last_microstep f
small_microstep One n small = omega (arith, small)
small_microstep Two n small = omega (arith, small)
small_microstep Three n small = omega (arith, small)
small_microstep Four n small = omega (arith, small)

pub small_count : (f : Form) (n : ℕ) → n < 10 → n ≤ most_records f
small_count One n small = omega (arith, small)
small_count Two n small = omega (arith, small)
small_count Three n small = omega (arith, small)
small_count Four n small = omega (arith, small)
