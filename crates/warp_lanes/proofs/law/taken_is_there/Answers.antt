use Rattle.warp_replica.proofs.Growing.{line_grows, taken_there}
use Rattle.warp_lanes.proofs.law.taken_is_there.Goals as goal

pub returns-clause-one_more : goal.returns-clause-one_more
returns-clause-one_more c = line_grows

pub returns-clause-there : goal.returns-clause-there
returns-clause-there c = taken_there
