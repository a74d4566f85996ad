-- The lines of a schedule's text: where bytes begin with one, its words and what is behind it.
use Rattle.std.proofs.Common.{◌≡◌, ℕ, ◌<◌, true, List, [], ◌∷◌, ◌++◌, length, sym, ap, ◌∙◌, refl, arith, append_assoc}
use Rattle.std.specs.List.{All, slice_split, join_with_byte}
use Rattle.std.proofs.lemmas.List.{append-nil, flat_map_more}
use Rattle.std.proofs.lemmas.List.Elements.{All-append, All-cons}
use Rattle.std.proofs.lemmas.List.Splits.{slice_split_at, slice_split_none, length-slice_split}
use Rattle.warp_tag.specs.declared.form.Form.{Form}
use Rattle.warp_record.specs.Lines.{is_end, IsOneLine}
use Rattle.warp_record.specs.Number.{is_space}
use Rattle.warp_record.proofs.LineCuts.{first_line}
use Rattle.warp_record.proofs.PlainWords.{are_plain, joined_if_plain, words_of_text}
use Rattle.warp_record.proofs.WordCuts.{joined_words}
use Rattle.warp_world.specs.Moves.{IsMove, move_words}
use Rattle.warp_world.specs.Schedule.{count_words, line, schedule_text}
use Rattle.warp_world.specs.declared.moves.Move.{Move}

-- a text with its line feed is the line of its words
pub line_of_words : (bytes text rest : List ℕ) (words : List (List ℕ)) → bytes ≡ text ++ 10 ∷ rest
    → slice_split is_space text ≡ words
    → bytes ≡ line words ++ rest
line_of_words bytes text rest words is are =
    let joined : text ≡ join_with_byte 32 words = joined_words text ∙ ap (join_with_byte 32) are in
    is ∙ ap (λ (front : List ℕ). front ++ 10 ∷ rest) joined ∙ sym (append_assoc (join_with_byte 32 words) (10 ∷ []) rest)

-- bytes that begin with a line of plain words have these words in the text of their first line, and the same behind it
pub words_of_first : (bytes text rest after : List ℕ) (words : List (List ℕ)) → IsOneLine text → bytes ≡ text ++ 10 ∷ rest
    → 0 < length words → are_plain words ≡ true → bytes ≡ line words ++ after
    → (slice_split is_space text ≡ words) × (rest ≡ after)
words_of_first bytes text rest after words one is some plain begins =
    let joined : List ℕ = join_with_byte 32 words in
    let same : text ++ 10 ∷ rest ≡ joined ++ 10 ∷ after = sym is ∙ begins ∙ append_assoc joined (10 ∷ []) after in
    let parts = first_line text joined rest after one (joined_if_plain words plain) same in
    (words_of_text text words some plain parts.0, parts.1)

-- bytes without a line feed begin with no line
pub no_first : (bytes after : List ℕ) (words : List (List ℕ)) → IsOneLine bytes → are_plain words ≡ true
    → bytes ≡ line words ++ after → ⊥
no_first bytes after words one plain begins =
    let joined : List ℕ = join_with_byte 32 words in
    let cut : slice_split is_end (joined ++ 10 ∷ after) ≡ joined ∷ slice_split is_end after =
    slice_split_at is_end joined 10 after (joined_if_plain words plain) refl in
    let same : slice_split is_end bytes ≡ slice_split is_end (joined ++ 10 ∷ after) =
    ap (slice_split is_end) (begins ∙ append_assoc joined (10 ∷ []) after) in
    let whole : slice_split is_end bytes ≡ bytes ∷ [] = slice_split_none is_end bytes one in
    omega (arith, ap length (sym whole ∙ same ∙ cut), length-slice_split is_end after)

-- lines of the same plain words and what is behind them, where the lines begin the same bytes
pub same_first : (words others : List (List ℕ)) (rest after : List ℕ) → 0 < length words → 0 < length others
    → are_plain words ≡ true → are_plain others ≡ true
    → line words ++ rest ≡ line others ++ after → (words ≡ others) × (rest ≡ after)
same_first words others rest after some some_others plain plain_others same =
    let joined : List ℕ = join_with_byte 32 words in
    let is : line words ++ rest ≡ joined ++ 10 ∷ rest = append_assoc joined (10 ∷ []) rest in
    let one =
    words_of_first (line words ++ rest) joined rest after others (joined_if_plain words plain) is
    some_others plain_others same in
    (sym (words_of_text joined words some plain refl) ∙ one.0, one.1)

-- a schedule with one more move
pub one_more : (f : Form) (bytes : List ℕ) (count : ℕ) (moves : List Move) (next : Move) (rest behind : List ℕ)
    → All (IsMove f) moves → IsMove f next
    → bytes ≡ schedule_text count moves ++ rest → rest ≡ line (move_words next) ++ behind
    → All (IsMove f) (moves ++ next ∷ []) × (bytes ≡ schedule_text count (moves ++ next ∷ []) ++ behind)
one_more f bytes count moves next rest behind fit fits text first =
    let text_of : Move → List ℕ = λ (m : Move). line (move_words m) in
    let before : List ℕ = schedule_text count moves in
    let more = flat_map_more text_of (line (count_words count)) moves next in (
      All-append (IsMove f) moves (next ∷ []) fit (All-cons (IsMove f) next [] fits (λ k d below. absurd (omega arith))),
      text
          ∙ ap (λ (left : List ℕ). before ++ left) first
          ∙ sym (append_assoc before (text_of next) behind)
          ∙ ap (λ (front : List ℕ). front ++ behind) more,
    )

-- what stands before an end
pub at_end : (bytes : List ℕ) (count : ℕ) (moves : List Move) (rest : List ℕ) → length rest ≡ 0
    → bytes ≡ schedule_text count moves ++ rest → bytes ≡ schedule_text count moves
at_end bytes count moves [] empty text = text ∙ append-nil (schedule_text count moves)
at_end bytes count moves (byte ∷ rest) empty text = absurd (omega (arith, empty))
