use Rattle.warp_service.proofs.NewsLemmas.{apart}
use Rattle.warp_service.proofs.laws.lines_apart.Goals as goal

pub returns : goal.returns
returns c = apart
