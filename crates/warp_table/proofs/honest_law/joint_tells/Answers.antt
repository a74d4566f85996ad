use Rattle.warp_table.proofs.BelowHorizon.{event_jointly, withdrawal_jointly}
use Rattle.warp_table.proofs.honest_law.joint_tells.Goals as goal

pub returns-clause-events : goal.returns-clause-events
returns-clause-events c = event_jointly

pub returns-clause-withdrawals : goal.returns-clause-withdrawals
returns-clause-withdrawals c = withdrawal_jointly
