use Rattle.warp_keep.proofs.Closed.{stamp_may, stamp_one}
use Rattle.warp_keep.proofs.law.stamped.Goals as goal

pub returns-clause-may : goal.returns-clause-may
returns-clause-may c = stamp_may

pub returns-clause-one : goal.returns-clause-one
returns-clause-one c = stamp_one
