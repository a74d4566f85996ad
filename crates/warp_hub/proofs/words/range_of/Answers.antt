use Rattle.std.proofs.Common.{◌≡◌, ◌∙◌, sym, arith}
use Rattle.std.proofs.lemmas.Fmt.{decimal_injective}
use Rattle.warp_hub.proofs.words.range_of.Goals as goal

pub returns-then-count-eq0-clause-none : goal.returns-then-count-eq0-clause-none
returns-then-count-eq0-clause-none c = λ from many fits first count.
    let zero : c.in_ok-count.count ≡ 0 = omega (arith, c.if-count-eq0.true) in
    let same = decimal_injective many c.in_ok-count.count (omega (arith, fits.1.1)) (omega (arith, zero))
    (sym count ∙ c.in_ok-count.ensures.found.1) in
    omega (arith, same, zero, fits.1.0)
