-- What keeps it from beginning does nothing.
use Rattle.std.proofs.Common.{inl, inr, refl}
use Rattle.warpd.proofs.hosting.host_planned.Goals as goal

pub returns-in-Ok : goal.returns-in-Ok
returns-in-Ok g c = inr c.host_at.ensures

pub returns-in-Err : goal.returns-in-Err
returns-in-Err g c = inl (c.in-Err.ensures, refl)
