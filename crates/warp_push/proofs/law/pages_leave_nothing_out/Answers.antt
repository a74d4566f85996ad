use Rattle.warp_push.proofs.Pushed.{pushed_in_order}
use Rattle.warp_push.proofs.law.pages_leave_nothing_out.Goals as goal

pub returns : goal.returns
returns c = pushed_in_order
