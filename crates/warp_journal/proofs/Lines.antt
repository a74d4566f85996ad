-- Where the lines of bytes end.
use Rattle.std.proofs.Common.{◌≡◌, ℕ, suc, ◌+◌, ◌-◌, ◌<◌, ◌≤◌, Bool, true, false, List, [], ◌∷◌, ◌++◌, length, take, drop, get_or, min, Some, None, ap, sym, ◌∙◌, refl, arith, append_assoc, true≢false}
use Rattle.std.proofs.lemmas.Bool.{eqb-true}
use Rattle.std.proofs.lemmas.List.{get_or-take, get_or_default, length-append, length-drop, length-take, length_push, take-append-drop}
use Rattle.std.proofs.Math.Seq.{drop-cons, take-add, take-append_seam, take-length}
use Rattle.memchr.specs.Find.{IsFirstByte, is_byte}
use Rattle.warp_record.specs.Lines.{IsOneLine, is_end}
use Rattle.warp_journal.specs.Journal.{line_of}

fails : (b : Bool) → (b ≡ true → ⊥) → b ≡ false
fails true passed = absurd (passed refl)
fails false passed = refl

-- no line feed is where none was found
pub found_none : (bytes : List ℕ) → IsFirstByte (is_byte 10) bytes None → IsOneLine bytes
found_none bytes none = λ k d below.
    ap is_end (get_or_default bytes k d 0 below) ∙ fails (is_end (get_or bytes k 0)) (none k (omega arith) below)

-- in front of the first line feed is a line
pub found_line : (bytes : List ℕ) (end : ℕ) → IsFirstByte (is_byte 10) bytes (Some end) →
    IsOneLine (take end bytes) × ((behind : List ℕ) × (bytes ≡ line_of (take end bytes) ++ behind))
found_line bytes end found =
    let behind = drop (suc end) bytes in
    let one_line : IsOneLine (take end bytes) = λ k d below.
    let many : length (take end bytes) ≡ min end (length bytes) = length-take end bytes in
    let before : k < end = omega arith in
    let within : k < length bytes = omega arith in
    ap is_end (get_or-take end bytes k d before ∙ get_or_default bytes k d 0 within)
    ∙ fails (is_end (get_or bytes k 0)) (found.0.before k (omega arith) before) in
    let rest : drop end bytes ≡ 10 ∷ behind =
    drop-cons bytes end 0 found.0.high ∙ ap (λ (byte : ℕ). byte ∷ behind) (eqb-true (get_or bytes end 0) 10 found.1) in
    let whole : bytes ≡ line_of (take end bytes) ++ behind =
    sym (take-append-drop end bytes) ∙ ap (λ it. take end bytes ++ it) rest
    ∙ sym (append_assoc (take end bytes) (10 ∷ []) behind) in
    (one_line, (behind, whole))

one_line_behind : (byte : ℕ) (bytes : List ℕ) → IsOneLine (byte ∷ bytes) → IsOneLine bytes
one_line_behind byte bytes one = λ k d below. one (suc k) d (omega (arith, below))

-- the first line of bytes is one
pub same_line : (a b x y : List ℕ) → IsOneLine a → IsOneLine b → line_of a ++ x ≡ line_of b ++ y → a ≡ b
same_line [] [] x y one_a one_b is = refl
same_line [] (byte ∷ b) x y one_a one_b is =
    let end : 10 ≡ byte = cc in
    absurd (true≢false (ap is_end end ∙ one_b 0 0 (omega arith)))
same_line (byte ∷ a) [] x y one_a one_b is =
    let end : 10 ≡ byte = cc in
    absurd (true≢false (ap is_end end ∙ one_a 0 0 (omega arith)))
same_line (byte ∷ a) (other ∷ b) x y one_a one_b is =
    let first : byte ≡ other = cc in
    let rest : line_of a ++ x ≡ line_of b ++ y = cc in
    let same : a ≡ b = same_line a b x y (one_line_behind byte a one_a) (one_line_behind other b one_b) rest in
    cc

-- what is left of bytes is what stands behind those that are kept
pub take_rest : (bytes : List ℕ) (kept : ℕ) → take (length bytes - kept) (drop kept bytes) ≡ drop kept bytes
take_rest bytes kept = ap (λ n. take n (drop kept bytes)) (sym (length-drop kept bytes)) ∙ take-length (drop kept bytes)

-- behind what is kept stands a line, which is kept then
pub went_on : (bytes text behind : List ℕ) (kept : ℕ) → drop kept bytes ≡ line_of text ++ behind →
    take (kept + length text + 1) bytes ≡ take kept bytes ++ line_of text
went_on bytes text behind kept rest =
    let many : kept + length text + 1 ≡ kept + (length text + 1) = omega arith in
    let front : take (length text + 1) (drop kept bytes) ≡ line_of text =
    ap (λ it. take (length text + 1) it) rest ∙ ap (λ n. take n (line_of text ++ behind)) (sym (length_push text 10))
    ∙ take-append_seam (line_of text) behind in
    ap (λ n. take n bytes) many ∙ take-add kept (length text + 1) bytes ∙ ap (λ it. take kept bytes ++ it) front

-- which is among the bytes
pub still_few : (bytes text behind : List ℕ) (kept : ℕ) → kept ≤ length bytes → drop kept bytes ≡ line_of text ++ behind →
    kept + length text + 1 ≤ length bytes
still_few bytes text behind kept few rest =
    let left : length (drop kept bytes) ≡ length bytes - kept = length-drop kept bytes in
    let is : length (drop kept bytes) ≡ length (line_of text) + length behind =
    ap length rest ∙ length-append (line_of text) behind in
    let line : length (line_of text) ≡ length text + 1 = length_push text 10 in
    omega arith
