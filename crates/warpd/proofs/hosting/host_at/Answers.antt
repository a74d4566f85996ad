-- It is listened and said so, and what comes behind that line is a host's.
use Rattle.std.proofs.Common.{inr}
use Rattle.warpd.proofs.hosting.host_at.Goals as goal

pub returns-in-Ok : goal.returns-in-Ok
returns-in-Ok g c = inr (inr (c.in-Ok.ensures.ok.0, c.host_on.ensures, c.in-Ok.ensures.ok.1))
