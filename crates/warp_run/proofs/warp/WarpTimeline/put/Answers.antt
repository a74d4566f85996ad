use Rattle.std.proofs.Common.{w64}
use Rattle.std.proofs.lemmas.Int.{to_z-of_z}
use Rattle.warp_run.proofs.warp.WarpTimeline.put.Goals as goal

-- where the name comes behind all others and after the last row
pub returns-in-Some-clause-stands : goal.returns-in-Some-clause-stands
returns-in-Some-clause-stands c = rw (to_z-of_z w64 c.args.value c.ranges.value) at c.put_last.ensures.stands

pub returns-in-Some-clause-settled : goal.returns-in-Some-clause-settled
returns-in-Some-clause-settled c = rw (to_z-of_z w64 c.args.value c.ranges.value) at c.put_last.ensures.settled

-- where it may stand among others
pub returns-in_default-clause-stands : goal.returns-in_default-clause-stands
returns-in_default-clause-stands c = rw (to_z-of_z w64 c.args.value c.ranges.value) at c.put_among.ensures.stands

pub returns-in_default-clause-settled : goal.returns-in_default-clause-settled
returns-in_default-clause-settled c = rw (to_z-of_z w64 c.args.value c.ranges.value) at c.put_among.ensures.settled
