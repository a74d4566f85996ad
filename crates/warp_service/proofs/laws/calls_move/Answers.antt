use Rattle.warp_service.proofs.MoveLemmas.{heard, found_moves, ended_moves, opened_moves}
use Rattle.warp_service.proofs.laws.calls_move.Goals as goal

pub returns-clause-heard : goal.returns-clause-heard
returns-clause-heard c = heard

pub returns-clause-found : goal.returns-clause-found
returns-clause-found c = found_moves

pub returns-clause-ended : goal.returns-clause-ended
returns-clause-ended c = ended_moves

pub returns-clause-opened : goal.returns-clause-opened
returns-clause-opened c = opened_moves
