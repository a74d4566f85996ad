use Rattle.std.proofs.Common.{inl, inr, refl}
use Rattle.warp_machine.proofs.machine.Machine.hear.Goals as goal

pub returns-then-has_rest-clause-takes : goal.returns-then-has_rest-clause-takes
returns-then-has_rest-clause-takes g c = inl (refl, refl)

pub returns-in-Some-clause-takes : goal.returns-in-Some-clause-takes
returns-in-Some-clause-takes g c = inr (c.has_rest.ensures c.if-has_rest.false, inl c.in-Some.ensures.heard)

pub returns-in-None-clause-takes : goal.returns-in-None-clause-takes
returns-in-None-clause-takes g c = inr (c.has_rest.ensures c.if-has_rest.false, inr (refl, c.in-None.ensures.lost))
