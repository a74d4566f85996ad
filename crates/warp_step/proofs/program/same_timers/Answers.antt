-- `==` decides whether two are equal
use Rattle.std.proofs.lemmas.Slice.Eq.{slice_eq-Decides}
use Rattle.warp_step.proofs.Sameness.{same_timer}
use Rattle.warp_step.proofs.program.same_timers.Goals as goal

pub returns : goal.returns
returns c = slice_eq-Decides same_timer _ _ _ c.eq.ensures
