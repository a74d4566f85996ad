use Rattle.std.proofs.Common.{inl, refl}
use Rattle.warpd.proofs.hosting.host_job.Goals as goal

pub returns-in-Err : goal.returns-in-Err
returns-in-Err g c = inl (c.in-Err.ensures.fault, refl)
