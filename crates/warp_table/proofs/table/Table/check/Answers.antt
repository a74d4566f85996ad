use Rattle.warp_table.proofs.table.Table.check.Goals as goal

pub returns-in-Event : goal.returns-in-Event
returns-in-Event c = rw c.in-Event.is (c.check_event.ensures c.in-Event.value)

pub returns-in-Announce : goal.returns-in-Announce
returns-in-Announce c = rw c.in-Announce.is (c.check_end.ensures c.in-Announce.events c.in-Announce.withdrawn)

pub returns-in-Joint : goal.returns-in-Joint
returns-in-Joint c = rw c.in-Joint.is (c.check_joint.ensures c.in-Joint.events c.in-Joint.withdrawn)
