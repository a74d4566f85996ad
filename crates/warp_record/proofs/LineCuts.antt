-- The lines of bytes that were cut into pieces.
use Rattle.std.proofs.Common.{◌≡◌, ℕ, ◌+◌, ◌<◌, ◌≤◌, Bool, true, false, cond, not, ltb, List, [], ◌∷◌, ◌++◌, length, get_or, drop, Some, None, sym, ap, ◌∙◌, refl, arith, append_assoc, inl, inr, true≢false}
use Rattle.std.specs.List.{position, slice_split, join_with_byte, before_first}
use Rattle.std.specs.Option.{option_to_list}
use Rattle.std.proofs.lemmas.List.Splits.{slice_split_at, slice_split_none, length-slice_split, join_with_byte-slice_split}
use Rattle.std.proofs.lemmas.List.Sums.{prefix_len-le-length, fails_before_first, passes_at_first, split_at_first}
use Rattle.std.proofs.lemmas.Bool.{eqb-true, cases_lt, lt-ltb, le-ltb, cond-true, cond-false}
use Rattle.std.proofs.lemmas.List.{length-take, get_or-take}
use Rattle.std.proofs.lemmas.List.Elements.{All-append}
use Rattle.warp_record.specs.Lines.{is_end, IsOneLine, ended, unended, pieces, lines_of, first_end}

chosen : (n m : ℕ) (b : Bool) → Some m ≡ cond b (Some n) None → (b ≡ true) × (m ≡ n)
chosen n m true is = (refl, cc)
chosen n m false is = cc

not_chosen : (n : ℕ) (b : Bool) → None ≡ cond b (Some n) None → b ≡ false
not_chosen n true is = cc
not_chosen n false is = refl

-- where a line feed was found, it is the first
pub found_end : (bytes : List ℕ) (place : ℕ) → Some place ≡ position is_end bytes → (place ≡ first_end bytes) × (first_end bytes < length bytes)
found_end bytes place is =
    let parts = chosen (first_end bytes) place (ltb (first_end bytes) (length bytes)) is in
    (parts.1, grind (arith, parts.0))

-- where none was found, there is none
pub no_end : (bytes : List ℕ) → None ≡ position is_end bytes → first_end bytes ≡ length bytes
no_end bytes is =
    let past = not_chosen (first_end bytes) (ltb (first_end bytes) (length bytes)) is in
    let within = prefix_len-le-length (λ (byte : ℕ). not (is_end byte)) bytes in
    grind (arith, past, within)

-- no line feed stands in some more bytes
pub end_goes_on : (bytes : List ℕ) (i j : ℕ) → i ≤ first_end bytes → j ≤ length bytes
    → ((k : ℕ) → i ≤ k → k < j → is_end (get_or bytes k 0) ≡ false) → j ≤ first_end bytes
end_goes_on bytes i j le within none =
    elim (cases_lt (first_end bytes) j) [
      | inl less ↦
          let here = passes_at_first is_end bytes 0 (omega (arith, less, within)) in
          absurd (true≢false (sym here ∙ none (first_end bytes) le less))
      | inr over ↦ omega (arith, over)
    ]

-- the first line feed is found
pub end_here : (bytes : List ℕ) (i : ℕ) → i ≤ first_end bytes → i < length bytes → is_end (get_or bytes i 0) ≡ true
    → Some i ≡ position is_end bytes
end_here bytes i le below here =
    let is : i ≡ first_end bytes =
    elim (cases_lt i (first_end bytes)) [
      | inl less ↦ absurd (true≢false (sym here ∙ fails_before_first is_end bytes i 0 less))
      | inr over ↦ omega (arith, le, over)
    ] in
    ap (λ (n : ℕ). Some n) is ∙ sym (cond-true _ _ _ (lt-ltb (first_end bytes) (length bytes) (omega (arith, is, below))))

-- none is found
pub end_nowhere : (bytes : List ℕ) → length bytes ≤ first_end bytes → None ≡ position is_end bytes
end_nowhere bytes le = sym (cond-false _ _ _ (le-ltb (first_end bytes) (length bytes) le))

pieces_more : (line : List ℕ) (parts : List (List ℕ)) → 0 < length parts → pieces (line ∷ parts) ≡ ended line ∷ pieces parts
pieces_more line [] some = absurd (omega arith)
pieces_more line (part ∷ parts) some = refl

-- a line that was ended, and the lines of the rest
pub lines_of-ended : (line rest : List ℕ) → IsOneLine line → lines_of (line ++ 10 ∷ rest) ≡ ended line ∷ lines_of rest
lines_of-ended line rest one =
    let parts : slice_split is_end (line ++ 10 ∷ rest) ≡ line ∷ slice_split is_end rest = slice_split_at is_end line 10 rest one refl in
    let some : 0 < length (slice_split is_end rest) = omega (arith, length-slice_split is_end rest) in
    ap pieces parts ∙ pieces_more line (slice_split is_end rest) some

-- a rest without a line feed
pub lines_of-unended : (line : List ℕ) → IsOneLine line → lines_of line ≡ option_to_list (unended line)
lines_of-unended line one = ap pieces (slice_split_none is_end line one)

-- what stands before the first line feed has none
pub one_line_before : (bytes : List ℕ) → IsOneLine (before_first is_end bytes)
one_line_before bytes k d below =
    let before : k < first_end bytes = omega (arith, below, length-take (first_end bytes) bytes) in
    ap is_end (get_or-take (first_end bytes) bytes k d before) ∙ fails_before_first is_end bytes k d before

-- bytes without a line feed go on with the line
pub one_line_more : (line piece : List ℕ) → IsOneLine line → first_end piece ≡ length piece → IsOneLine (line ++ piece)
one_line_more line piece one none =
    All-append (λ (byte : ℕ). is_end byte ≡ false) line piece one
    (λ k d below. fails_before_first is_end piece k d (omega (arith, below, none)))

-- Bytes with a line feed: the unfinished line and what stands before the line feed are a line, and the lines
-- of the rest follow.
pub lines_of-piece : (line piece more : List ℕ) → IsOneLine line → first_end piece < length piece
    → lines_of (line ++ (piece ++ more)) ≡ ended (line ++ before_first is_end piece) ∷ lines_of (drop (first_end piece + 1) piece ++ more)
lines_of-piece line piece more one some =
    let before : List ℕ = before_first is_end piece in
    let after : List ℕ = drop (first_end piece + 1) piece in
    let is_lf : get_or piece (first_end piece) 0 ≡ 10 = eqb-true (get_or piece (first_end piece) 0) 10 (passes_at_first is_end piece 0 some) in
    let cut : piece ≡ before ++ 10 ∷ after =
    split_at_first is_end piece 0 some ∙ ap (λ (byte : ℕ). before ++ byte ∷ after) is_lf in
    let regrouped : line ++ (piece ++ more) ≡ (line ++ before) ++ 10 ∷ (after ++ more) =
    ap (λ (bytes : List ℕ). line ++ (bytes ++ more)) cut
    ∙ (ap (λ (bytes : List ℕ). line ++ bytes) (append_assoc before (10 ∷ after) more)
    ∙ sym (append_assoc line before (10 ∷ (after ++ more)))) in
    let front : IsOneLine (line ++ before) =
    All-append (λ (byte : ℕ). is_end byte ≡ false) line before one (one_line_before piece) in
    ap lines_of regrouped ∙ lines_of-ended (line ++ before) (after ++ more) front

-- where bytes begin with a line and its line feed, they do so in one way
pub first_line : (line other rest more : List ℕ) → IsOneLine line → IsOneLine other → line ++ 10 ∷ rest ≡ other ++ 10 ∷ more
    → (line ≡ other) × (rest ≡ more)
first_line line other rest more one_line one_other same =
    let parts_line : slice_split is_end (line ++ 10 ∷ rest) ≡ line ∷ slice_split is_end rest =
    slice_split_at is_end line 10 rest one_line refl in
    let parts_other : slice_split is_end (other ++ 10 ∷ more) ≡ other ∷ slice_split is_end more =
    slice_split_at is_end other 10 more one_other refl in
    let split : slice_split is_end (line ++ 10 ∷ rest) ≡ slice_split is_end (other ++ 10 ∷ more) = ap (slice_split is_end) same in
    let parts : line ∷ slice_split is_end rest ≡ other ∷ slice_split is_end more = sym parts_line ∙ split ∙ parts_other in
    let behind : slice_split is_end rest ≡ slice_split is_end more = cc in
    (cc, sym (join_with_byte-slice_split 10 rest) ∙ ap (join_with_byte 10) behind ∙ join_with_byte-slice_split 10 more)

-- a line with its line feed that begins another with its line feed is that line
pub same_front : (line other rest : List ℕ) → IsOneLine line → IsOneLine other → other ++ 10 ∷ [] ≡ line ++ 10 ∷ [] ++ rest → line ≡ other
same_front line other rest one_line one_other same =
    (first_line line other rest [] one_line one_other (sym (append_assoc line (10 ∷ []) rest) ∙ sym same)).0
