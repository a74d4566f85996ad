use Rattle.warp_seats.proofs.ApartLemmas.{stays_offered}
use Rattle.warp_seats.proofs.ReadLemmas.{kept_is, kept_text, one}
use Rattle.warp_seats.proofs.laws.what_is_written_is_read.Goals as goal

pub returns-clause-kept : goal.returns-clause-kept
returns-clause-kept c = λ now s apart count offered can. (kept_is now s apart count offered can, kept_text now s)

pub returns-clause-one : goal.returns-clause-one
returns-clause-one c = one

pub returns-clause-offered : goal.returns-clause-offered
returns-clause-offered c = stays_offered
