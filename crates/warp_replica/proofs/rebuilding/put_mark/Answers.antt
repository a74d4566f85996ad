use Rattle.warp_replica.proofs.rebuilding.put_mark.Goals as goal

pub returns-clause-stands : goal.returns-clause-stands
returns-clause-stands g c = rw c.if-not-name.false c.bring.ensures.stands
