use Rattle.warp_record.proofs.LineCuts.{same_front}
use Rattle.warp_record.proofs.law.no_front.Goals as goal

pub returns : goal.returns
returns c = λ a b one_a one_b front. same_front a b front.0 one_a one_b front.1
