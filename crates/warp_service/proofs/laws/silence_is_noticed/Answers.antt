use Rattle.warp_service.proofs.SilenceLemmas.{asked, looked, over}
use Rattle.warp_service.proofs.laws.silence_is_noticed.Goals as goal

pub returns-clause-looked : goal.returns-clause-looked
returns-clause-looked c = looked

pub returns-clause-asked : goal.returns-clause-asked
returns-clause-asked c = asked

pub returns-clause-over : goal.returns-clause-over
returns-clause-over c = over
