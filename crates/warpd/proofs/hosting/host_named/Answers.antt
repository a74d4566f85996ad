-- The program of the name is hosted.
use Rattle.std.proofs.Common.{inl, inr}
use Rattle.warpd.proofs.hosting.host_named.Goals as goal

pub returns-in-Ok : goal.returns-in-Ok
returns-in-Ok g c = inr (inl (c.in-Ok.hosted.program, c.in-Ok.ensures.ok, c.host_planned.ensures))
