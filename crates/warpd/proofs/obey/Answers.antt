-- Words with no fault ask for what was done.
use Rattle.std.proofs.Common.{inl}
use Rattle.warpd.proofs.obey.Goals as goal

pub returns-in-Ok-words : goal.returns-in-Ok-words
returns-in-Ok-words g c =
    let asked = c.in-Ok-words.ensures.ok in
    rw (← c.in-Ok.ensures, ← c.as_slice.ensures.value) (inl (asked.0, (_, asked.1, c.carry_out.ensures)))
