use Rattle.std.proofs.Common.{◌∙◌, ap, arith, decimal, sym}
use Rattle.std.proofs.lemmas.Bool.Decides.{Decides-eqb}
use Rattle.std.proofs.lemmas.Fmt.{decimal_injective}
use Rattle.warp_seats.proofs.text.is_number.Goals as goal

pub returns-in-Some : goal.returns-in-Some
returns-in-Some c = (
  λ e. c.in-Some.ensures.found.1 ∙ ap decimal ((Decides-eqb c.in-Some.found c.args.number).0 e),
  λ is. (Decides-eqb c.in-Some.found c.args.number).1
      (decimal_injective c.in-Some.found c.args.number (omega (arith, c.in-Some.ensures.found.0)) (omega (arith, c.ranges.number.fits))
      (sym c.in-Some.ensures.found.1 ∙ is)),
)
