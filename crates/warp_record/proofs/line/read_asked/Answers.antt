use Rattle.std.proofs.Common.{◌≡◌, ℕ, List, ◌∷◌, codes, ◌∙◌, ap, sym}
use Rattle.std.specs.List.{slice_split, join_with_byte}
use Rattle.warp_record.specs.Number.{is_space}
use Rattle.warp_record.specs.inner.Behind.{words_behind}
use Rattle.warp_record.proofs.LineWords.{words_of_line}
use Rattle.warp_record.proofs.QueryTexts.{index_of_var, index_of_output}
use Rattle.warp_record.proofs.WordCuts.{joined_words}
use Rattle.warp_record.proofs.line.read_asked.Goals as goal

pub returns-in_err-cut_last_index-clause-none : goal.returns-in_err-cut_last_index-clause-none
returns-in_err-cut_last_index-clause-none c =
    let bytes = c.args.bytes.now in
    let words : slice_split is_space bytes ≡ codes "var" ∷ words_behind c.in-Some.text.now = c.in-Some.ensures.found in
    rw c.from_residual.ensures
    (λ line fits is.
    let are = sym words ∙ (words_of_line c.args.form bytes line fits is).0 in
    let told = index_of_var c.args.form (words_behind c.in-Some.text.now) line fits are in
    absurd (c.in_err-cut_last_index.ensures.none told.0 told.1 told.2))

pub returns-in-Some-clause-found : goal.returns-in-Some-clause-found
returns-in-Some-clause-found c =
    let read = c.in_ok-cut_last_index.ensures.found in (
      read.0,
      joined_words c.args.bytes.now ∙ ap (join_with_byte 32)
          (c.in-Some.ensures.found ∙ ap (λ (words : List (List ℕ)). codes "var" ∷ words) read.1),
    )

pub returns-in_err-cut_last_index-2-clause-none : goal.returns-in_err-cut_last_index-2-clause-none
returns-in_err-cut_last_index-2-clause-none c =
    let bytes = c.args.bytes.now in
    let words : slice_split is_space bytes ≡ codes "output" ∷ words_behind c.in-Some-behind_output.text.now = c.in-Some-behind_output.ensures.found in
    rw c.from_residual-in_err-cut_last_index-2.ensures
    (λ line fits is.
    let are = sym words ∙ (words_of_line c.args.form bytes line fits is).0 in
    let told = index_of_output c.args.form (words_behind c.in-Some-behind_output.text.now) line fits are in
    absurd (c.in_err-cut_last_index-2.ensures.none told.0 told.1 told.2))

pub returns-in-Some-behind_output-clause-found : goal.returns-in-Some-behind_output-clause-found
returns-in-Some-behind_output-clause-found c =
    let read = c.in_ok-cut_last_index-2.ensures.found in (
      read.0,
      joined_words c.args.bytes.now ∙ ap (join_with_byte 32)
          (c.in-Some-behind_output.ensures.found ∙ ap (λ (words : List (List ℕ)). codes "output" ∷ words) read.1),
    )
