-- `==` decides whether two are equal
use Rattle.std.proofs.lemmas.Slice.Eq.{slice_eq-Decides}
use Rattle.warp_step.proofs.Sameness.{same_input}
use Rattle.warp_step.proofs.program.same_inputs.Goals as goal

pub returns : goal.returns
returns c = slice_eq-Decides same_input _ _ _ c.eq.ensures
