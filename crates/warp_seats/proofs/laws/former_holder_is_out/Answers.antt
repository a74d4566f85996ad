use Rattle.warp_seats.proofs.ApartLemmas.{back_sends}
use Rattle.warp_seats.proofs.laws.former_holder_is_out.Goals as goal

pub returns-clause-sends : goal.returns-clause-sends
returns-clause-sends c = back_sends
