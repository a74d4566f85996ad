-- the scratch is the room of the program, and so has its plan
use Rattle.std.proofs.Common.{ap, ◌∙◌}
use Rattle.warp_step.specs.inner.Room.{Room}
use Rattle.warp_step.proofs.one_step.step.Goals as goal

pub advance-due-requires-clause-plan : goal.advance-due-requires-clause-plan
advance-due-requires-clause-plan g c = ap (λ (r : Room). r.plan) (c.scratch.view_is ∙ c.requires.scratch)
