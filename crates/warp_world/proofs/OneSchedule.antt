-- A file spells one schedule at most, in whichever forms, is refused at one line at most in a form, and not both.
use Rattle.std.proofs.Common.{◌≡◌, ◌≢◌, ℕ, zero, suc, List, [], ◌∷◌, ◌++◌, length, decimal, sym, ap, ◌∙◌, refl, arith, append_assoc}
use Rattle.std.specs.List.{All, join_with_byte, flat_map}
use Rattle.std.proofs.lemmas.List.{append-nil, length-append}
use Rattle.std.proofs.lemmas.List.Concat.{flat_map-cons}
use Rattle.std.proofs.lemmas.List.Elements.{All-head, All-tail}
use Rattle.warp_tag.specs.declared.form.Form.{Form}
use Rattle.warp_world.specs.Moves.{IsMove, move_words}
use Rattle.warp_world.specs.Schedule.{IsCount, IsRefusedAt, SpellsSchedule, count_words, line, schedule_text}
use Rattle.warp_world.specs.declared.moves.Move.{Move}
use Rattle.warp_world.proofs.MoveWords.{few_words, plain_count, plain_move}
use Rattle.warp_world.proofs.MoveReadings.{same_count, same_move}
use Rattle.warp_world.proofs.ScheduleLines.{same_first}

-- the line of a move
abbrev move_line : Move → List ℕ
move_line next = line (move_words next)

-- the lines of these moves
abbrev move_lines : List Move → List ℕ
move_lines moves = flat_map move_line moves

-- the bytes begin with no line of a move in a form
abbrev IsEnd : Form → List ℕ → Type 0
IsEnd f rest = (next : Move) (after : List ℕ) → IsMove f next → rest ≢ move_line next ++ after

-- no byte is no line
empty_is_end : (f : Form) → IsEnd f []
empty_is_end f next after fits is =
    omega (
      arith,
      ap length is,
      length-append (move_line next) after,
      length-append (join_with_byte 32 (move_words next)) (10 ∷ []),
    )

-- lines of moves, and what follows
more_lines : (next : Move) (moves : List Move) (rest : List ℕ)
    → move_lines (next ∷ moves) ++ rest ≡ move_line next ++ (move_lines moves ++ rest)
more_lines next moves rest =
    ap (λ (front : List ℕ). front ++ rest) (flat_map-cons move_line next moves)
    ∙ append_assoc (move_line next) (move_lines moves) rest

-- bytes that are lines of moves and an end are so in one way
same_lines : (f g : Form) (moves others : List Move) (rest after : List ℕ) → All (IsMove f) moves → All (IsMove g) others
    → IsEnd g rest → IsEnd f after
    → move_lines moves ++ rest ≡ move_lines others ++ after → (moves ≡ others) × (rest ≡ after)
same_lines f g [] [] rest after fit fit_others end end_after same = (refl, same)
same_lines f g [] (other ∷ others) rest after fit fit_others end end_after same =
    absurd
    (end other (move_lines others ++ after) (All-head (IsMove g) other others fit_others)
    (same ∙ more_lines other others after))
same_lines f g (next ∷ moves) [] rest after fit fit_others end end_after same =
    absurd (end_after next (move_lines moves ++ rest) (All-head (IsMove f) next moves fit) (sym same ∙ more_lines next moves rest))
same_lines f g (next ∷ moves) (other ∷ others) rest after fit fit_others end end_after same =
    let fits = All-head (IsMove f) next moves fit in
    let fits_other = All-head (IsMove g) other others fit_others in
    let first =
    same_first (move_words next) (move_words other) (move_lines moves ++ rest) (move_lines others ++ after)
    (few_words next).0 (few_words other).0 (plain_move f next fits) (plain_move g other fits_other)
    (sym (more_lines next moves rest) ∙ same ∙ more_lines other others after) in
    let behind =
    same_lines f g moves others rest after (All-tail (IsMove f) next moves fit) (All-tail (IsMove g) other others fit_others)
    end end_after first.1 in
    let one : next ≡ other = same_move f g next other fits fits_other first.0 in
    (cc (one, behind.0), behind.1)

-- bytes that are the text of a schedule and an end are so in one way
same_text : (f g : Form) (count other : ℕ) (moves others : List Move) (rest after : List ℕ) → IsCount count → IsCount other
    → All (IsMove f) moves → All (IsMove g) others → IsEnd g rest → IsEnd f after
    → schedule_text count moves ++ rest ≡ schedule_text other others ++ after
    → (count ≡ other) × (moves ≡ others) × (rest ≡ after)
same_text f g count other moves others rest after fits fits_other fit fit_others end end_after same =
    let regrouped = append_assoc (line (count_words count)) (move_lines moves) rest in
    let regrouped_other = append_assoc (line (count_words other)) (move_lines others) after in
    let first =
    same_first (count_words count) (count_words other) (move_lines moves ++ rest) (move_lines others ++ after)
    (omega arith) (omega arith) (plain_count count fits) (plain_count other fits_other)
    (sym regrouped ∙ same ∙ regrouped_other) in
    let behind = same_lines f g moves others rest after fit fit_others end end_after first.1 in
    let words : count_words count ≡ count_words other = first.0 in
    let texts : decimal count ≡ decimal other = cc in
    (same_count count other fits.1 fits_other.1 texts, behind.0, behind.1)

-- the text of a schedule begins with a number of replicas
begins_with_count : (count : ℕ) (moves : List Move) (rest : List ℕ)
    → schedule_text count moves ++ rest ≡ schedule_text count [] ++ (move_lines moves ++ rest)
begins_with_count count moves rest =
    append_assoc (line (count_words count)) (move_lines moves) rest
    ∙ ap (λ (front : List ℕ). front ++ (move_lines moves ++ rest)) (sym (append-nil (line (count_words count))))

-- a schedule that is spelled, with nothing behind it
whole_text : (f : Form) (bytes : List ℕ) (count : ℕ) (moves : List Move) → SpellsSchedule f bytes count moves
    → bytes ≡ schedule_text count moves ++ []
whole_text f bytes count moves spells = spells.text ∙ sym (append-nil (schedule_text count moves))

-- bytes spell one schedule
pub same_schedule : (f g : Form) (bytes : List ℕ) (count other : ℕ) (moves others : List Move) → SpellsSchedule f bytes count moves
    → SpellsSchedule g bytes other others → (count ≡ other) × (moves ≡ others)
same_schedule f g bytes count other moves others one two =
    let same =
    same_text f g count other moves others [] [] one.count_fits two.count_fits one.moves_fit two.moves_fit
    (empty_is_end g) (empty_is_end f)
    (sym (whole_text f bytes count moves one) ∙ whole_text g bytes other others two) in
    (same.0, same.1)

-- bytes are refused at one line
pub same_refusal : (f : Form) (bytes : List ℕ) (one other : ℕ) → IsRefusedAt f bytes one → IsRefusedAt f bytes other → one ≡ other
same_refusal f bytes zero zero first second = refl
same_refusal f bytes zero (suc zero) first second = absurd (omega (arith, first, second.0))
same_refusal f bytes zero (suc (suc other)) first second = absurd (omega (arith, first, second.0))
same_refusal f bytes (suc zero) zero first second = absurd (omega (arith, first.0, second))
same_refusal f bytes (suc zero) (suc zero) first second = refl
same_refusal f bytes (suc zero) (suc (suc other)) first second =
    let at = second.1 in
    absurd (first.1 at.0 (move_lines at.1 ++ at.2) at.3 (at.6 ∙ begins_with_count at.0 at.1 at.2))
same_refusal f bytes (suc (suc one)) zero first second = absurd (omega (arith, first.0, second))
same_refusal f bytes (suc (suc one)) (suc zero) first second =
    let at = first.1 in
    absurd (second.1 at.0 (move_lines at.1 ++ at.2) at.3 (at.6 ∙ begins_with_count at.0 at.1 at.2))
same_refusal f bytes (suc (suc one)) (suc (suc other)) first second =
    let here = first.1 in
    let there = second.1 in
    let same =
    same_text f f here.0 there.0 here.1 there.1 here.2 there.2 here.3 there.3 here.4 there.4 here.8 there.8
    (sym here.6 ∙ there.6) in
    let many : one ≡ other = sym here.5 ∙ ap length same.1 ∙ there.5 in
    ap (λ (n : ℕ). suc (suc n)) many

-- bytes that spell a schedule are not refused
pub no_refusal : (f : Form) (bytes : List ℕ) (count : ℕ) (moves : List Move) (number : ℕ)
    → SpellsSchedule f bytes count moves → IsRefusedAt f bytes number → ⊥
no_refusal f bytes count moves zero spells refused = omega (arith, spells.size, refused)
no_refusal f bytes count moves (suc zero) spells refused =
    refused.1 count (move_lines moves ++ []) spells.count_fits
    (whole_text f bytes count moves spells ∙ begins_with_count count moves [])
no_refusal f bytes count moves (suc (suc number)) spells refused =
    let at = refused.1 in
    let same =
    same_text f f count at.0 moves at.1 [] at.2 spells.count_fits at.3 spells.moves_fit at.4 (empty_is_end f) at.8
    (sym (whole_text f bytes count moves spells) ∙ at.6) in
    at.7 (sym same.2)
