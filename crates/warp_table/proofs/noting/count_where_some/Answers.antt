use Rattle.std.proofs.Common.{sym}
use Rattle.warp_table.proofs.JointNext.{joint_none}
use Rattle.warp_table.proofs.noting.count_where_some.Goals as goal

pub returns-then-is_empty : goal.returns-then-is_empty
returns-then-is_empty c = sym (joint_none c.args.record.now c.args.is_first c.args.joint.now (c.is_empty.ensures c.if-is_empty.true))
