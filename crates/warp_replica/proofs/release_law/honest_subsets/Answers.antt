use Rattle.warp_table.proofs.Announcements.{honest_stays}
use Rattle.warp_replica.proofs.release_law.honest_subsets.Goals as goal

pub returns : goal.returns
returns c = λ S U honest within. honest_stays S U within honest
