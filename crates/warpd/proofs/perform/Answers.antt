-- The outcome is that of the words.
use Rattle.warpd.proofs.perform.Goals as goal

pub returns-in-Ok : goal.returns-in-Ok
returns-in-Ok g c =
    (c.obey.result, rw (c.in-Ok.is, ← c.as_slice.ensures.value) c.obey.ensures, c.tell.ensures.status, c.tell.ensures.told)
