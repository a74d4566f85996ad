use Rattle.std.proofs.Common.{ℕ, Bor, List, length, map, ap, ◌∙◌, sym, arith}
use Rattle.std.proofs.lemmas.Option.{IfSome_then}
use Rattle.warp_record.proofs.LineWords.{IfNone_then}
use Rattle.warp_world.proofs.schedule.count_in.Goals as goal

pub returns-clause-found : goal.returns-clause-found
returns-clause-found c =
    let are = ap (map (λ (word : Bor (List ℕ)). word.now)) c.deref.ensures.0 ∙ c.in_ok-words.ensures.found in
    IfSome_then c.count_of.result c.count_of.ensures.found (λ told is. (is.0, sym are ∙ is.1))

pub returns-clause-none : goal.returns-clause-none
returns-clause-none c =
    let are = ap (map (λ (word : Bor (List ℕ)). word.now)) c.deref.ensures.0 ∙ c.in_ok-words.ensures.found in
    IfNone_then c.count_of.result c.count_of.ensures.none (λ none told fits is. none told fits (are ∙ is))

pub returns-in_err-words-clause-none : goal.returns-in_err-words-clause-none
returns-in_err-words-clause-none c =
    rw c.from_residual.ensures (λ count fits is. omega (arith, c.in_err-words.ensures.none, ap length is))
