-- the outputs of a row are at its tag
use Rattle.warp_step.proofs.OutputsBefore.{early_outputs}
use Rattle.warp_step.proofs.law.early_outputs.Goals as goal

pub returns : goal.returns
returns c = early_outputs
