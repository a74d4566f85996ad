use Rattle.std.proofs.Common.{ℕ, Bor, List, map, ◌∙◌, ap, sym, arith}
use Rattle.std.specs.List.{join_with_byte}
use Rattle.std.proofs.lemmas.Option.{IfSome_then}
use Rattle.warp_record.proofs.LineWords.{IfNone_then}
use Rattle.warp_record.proofs.WordCuts.{joined_words}
use Rattle.warp_hub.proofs.WordForms.{words_of_word}
use Rattle.warp_hub.proofs.words.read_word.Goals as goal

pub returns-in_err-words-clause-none : goal.returns-in_err-words-clause-none
returns-in_err-words-clause-none c =
    rw c.from_residual.ensures
    (λ said fits is. omega (arith, c.in_err-words.ensures.none, (words_of_word c.args.bytes.now said fits is).1))

pub returns-clause-found : goal.returns-clause-found
returns-clause-found c =
    let are = ap (map (λ (text : Bor (List ℕ)). text.now)) c.deref.ensures.0 ∙ c.in_ok-words.ensures.found in
    IfSome_then c.word_of.result c.word_of.ensures.found
    (λ said is. (is.0, joined_words c.args.bytes.now ∙ ap (join_with_byte 32) (sym are ∙ is.1)))

pub returns-clause-none : goal.returns-clause-none
returns-clause-none c =
    let are = ap (map (λ (text : Bor (List ℕ)). text.now)) c.deref.ensures.0 ∙ c.in_ok-words.ensures.found in
    IfNone_then c.word_of.result c.word_of.ensures.none
    (λ none said fits is. none said fits (are ∙ (words_of_word c.args.bytes.now said fits is).0))
