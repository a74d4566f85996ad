-- the first of the pending entries has the least tag
use Rattle.std.proofs.Common.{◌≡◌, rules, arith, Some}
use Rattle.std.specs.Prelude.{slice_get}
use Rattle.std.proofs.lemmas.Grind.{common_steps}
use Rattle.warp_step.specs.Snapshot.{AreInOrder}
use Rattle.warp_step.proofs.PendingLemmas.{least_first}
use Rattle.warp_step.proofs.state.State.next.Goals as goal

pub returns : goal.returns
returns c =
    let ordered : AreInOrder c.args.self.now.pending = search rules in
    let first : slice_get c.args.self.now.pending 0 ≡ Some c.in_ok-first.first.now = grind (arith, common_steps) in
    least_first c.args.self.now.pending c.in_ok-first.first.now ordered first
