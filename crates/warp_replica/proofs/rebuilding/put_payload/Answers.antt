use Rattle.std.proofs.Common.{rules, w64, FitsSigned}
use Rattle.std.proofs.lemmas.Int.{to_z-of_z}
use Rattle.warp_replica.proofs.rebuilding.put_payload.Goals as goal

pub bring-requires-clause-fits : goal.bring-requires-clause-fits
bring-requires-clause-fits g c = c.requires.allowed.0 (c.in-Some.input, c.in-Some.value) c.in-Some.is

pub returns-clause-stands : goal.returns-clause-stands
returns-clause-stands g c =
    let fits : FitsSigned w64 c.in-Some.value = search rules in
    let stands = rw (to_z-of_z w64 c.in-Some.value fits) at c.bring.ensures.stands in
    rw c.in-Some.is stands
