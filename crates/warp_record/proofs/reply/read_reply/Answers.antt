use Rattle.std.proofs.Common.{ℕ, Bor, List, map, ◌∙◌, ap, sym, arith}
use Rattle.std.specs.List.{join_with_byte}
use Rattle.std.proofs.lemmas.Option.{IfSome_then}
use Rattle.warp_record.proofs.LineWords.{words_of_reply, IfNone_then}
use Rattle.warp_record.proofs.WordCuts.{joined_words}
use Rattle.warp_record.proofs.reply.read_reply.Goals as goal

pub returns-in_err-words-clause-none : goal.returns-in_err-words-clause-none
returns-in_err-words-clause-none c =
    rw c.from_residual.ensures
    (λ reply fits is. omega (arith, c.in_err-words.ensures.none, (words_of_reply c.args.form c.args.bytes.now reply fits is).1))

pub returns-clause-found : goal.returns-clause-found
returns-clause-found c =
    let are = ap (map (λ (word : Bor (List ℕ)). word.now)) c.deref.ensures.0 ∙ c.in_ok-words.ensures.found in
    IfSome_then c.read_words.result c.read_words.ensures.found
    (λ reply is. (is.0, joined_words c.args.bytes.now ∙ ap (join_with_byte 32) (sym are ∙ is.1)))

pub returns-clause-none : goal.returns-clause-none
returns-clause-none c =
    let are = ap (map (λ (word : Bor (List ℕ)). word.now)) c.deref.ensures.0 ∙ c.in_ok-words.ensures.found in
    IfNone_then c.read_words.result c.read_words.ensures.none
    (λ none reply fits is. none reply fits (are ∙ (words_of_reply c.args.form c.args.bytes.now reply fits is).0))
