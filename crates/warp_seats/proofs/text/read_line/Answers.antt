use Rattle.std.proofs.Common.{arith}
use Rattle.warp_seats.proofs.TextLemmas.{cut_is, no_line}
use Rattle.warp_seats.proofs.text.read_line.Goals as goal

pub returns-in_default-clause-none : goal.returns-in_default-clause-none
returns-in_default-clause-none c = λ said behind can is. no_line c.args.text.now behind c.args.origin said c.in_default.ensures.none is

pub returns-in_default-read_text-clause-none : goal.returns-in_default-read_text-clause-none
returns-in_default-read_text-clause-none c = λ said behind can is.
    c.in_default-read_text.ensures.none said can
    (cut_is c.args.text.now c.in-Some.line.now c.in-Some.behind.now behind c.args.origin said (omega (arith, c.ranges.origin.fits)) can
    c.in-Some.ensures.first c.in-Some.ensures.found is).0
