-- `==` decides whether two are equal
use Rattle.std.proofs.lemmas.Slice.Eq.{slice_eq-Decides}
use Rattle.warp_step.proofs.Sameness.{same_link}
use Rattle.warp_step.proofs.program.same_links.Goals as goal

pub returns : goal.returns
returns c = slice_eq-Decides same_link _ _ _ c.eq.ensures
