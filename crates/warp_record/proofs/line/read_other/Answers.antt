use Rattle.std.proofs.Common.{ℕ, Bor, List, map, ◌∙◌, ap, sym, arith}
use Rattle.std.specs.List.{join_with_byte}
use Rattle.std.proofs.lemmas.Option.{IfSome_then}
use Rattle.warp_record.proofs.LineWords.{words_of_line, IfNone_then}
use Rattle.warp_record.proofs.WordCuts.{joined_words}
use Rattle.warp_record.proofs.line.read_other.Goals as goal

pub returns-in_err-words-clause-none : goal.returns-in_err-words-clause-none
returns-in_err-words-clause-none c =
    rw c.from_residual.ensures
    (λ line fits is. absurd (omega (arith, c.in_err-words.ensures.none, (words_of_line c.args.form c.args.bytes.now line fits is).1)))

pub returns-clause-found : goal.returns-clause-found
returns-clause-found c =
    let are = ap (map (λ (word : Bor (List ℕ)). word.now)) c.deref.ensures.0 ∙ c.in_ok-words.ensures.found in
    IfSome_then c.line_of.result c.line_of.ensures.found
    (λ line is. (is.0, joined_words c.args.bytes.now ∙ ap (join_with_byte 32) (sym are ∙ is.1)))

pub returns-clause-none : goal.returns-clause-none
returns-clause-none c =
    let are = ap (map (λ (word : Bor (List ℕ)). word.now)) c.deref.ensures.0 ∙ c.in_ok-words.ensures.found in
    IfNone_then c.line_of.result c.line_of.ensures.none
    (λ none line fits is.
    let told = none line fits (are ∙ (words_of_line c.args.form c.args.bytes.now line fits is).0) in
    (told.0, sym are ∙ told.1))
