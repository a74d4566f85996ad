use Rattle.std.proofs.Common.{◌∙◌, sym, arith}
use Rattle.std.proofs.lemmas.Bool.{true≢false}
use Rattle.warp_hub.proofs.WordForms.{no_place_zero}
use Rattle.warp_hub.proofs.words.watch_from.Goals as goal

pub returns-then-number-eq0-clause-none : goal.returns-then-number-eq0-clause-none
returns-then-number-eq0-clause-none c = λ what fits are. no_place_zero c.args.word.now c.args.number what (omega (arith, c.if-number-eq0.true))
    (λ is. true≢false (sym (c.is_keyword.ensures.1 is) ∙ c.if-is_keyword.false)) fits are
