use Rattle.std.proofs.Common.{◌∙◌, ℕ, Bor, List, ap, arith, length, map, sym}
use Rattle.std.specs.List.{join_with_byte}
use Rattle.warp_record.proofs.WordCuts.{joined_words}
use Rattle.warp_seats.proofs.TextLemmas.{words_are}
use Rattle.warp_seats.proofs.text.read_text.Goals as goal

pub returns-in_default-clause-none : goal.returns-in_default-clause-none
returns-in_default-clause-none c = λ said can is.
    let e = words_are c.args.line.now c.args.origin said (omega (arith, c.ranges.origin.fits)) can is in
    let n = ap length e in omega (arith, c.in_default.ensures.none, n)

pub returns-in_default-read_words-clause-none : goal.returns-in_default-read_words-clause-none
returns-in_default-read_words-clause-none c = λ said can is.
    c.in_default-read_words.ensures.none said can
    (ap (map (λ (word : Bor (List ℕ)). word.now)) c.deref.ensures.0 ∙ c.in-Some.ensures.found
    ∙ words_are c.args.line.now c.args.origin said (omega (arith, c.ranges.origin.fits)) can is)

pub returns-clause-found : goal.returns-clause-found
returns-clause-found c =
    joined_words c.args.line.now
    ∙ ap (join_with_byte 32) (sym c.in-Some.ensures.found ∙ sym (ap (map (λ (word : Bor (List ℕ)). word.now)) c.deref.ensures.0) ∙ c.in-Some-read_words.ensures.found)
