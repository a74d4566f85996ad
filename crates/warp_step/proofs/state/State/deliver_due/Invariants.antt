-- the links that are left deliver as all do
use Rattle.std.proofs.Common.{◌≡◌, ◌-◌, ◌≤◌, drop}
use Rattle.warp_step.specs.Step.{with_links}
use Rattle.warp_step.proofs.state.State.deliver_due.Given as goal

abbrev pub invariant-loop-mark : goal.invariant-loop-mark
invariant-loop-mark l = record {
  first : l.first ≤ l.mark;
  rest : with_links l.program l.tag l.present (drop (l.mark - l.first) l.program.links) l.self
      ≡ with_links l.program l.tag l.present l.program.links l.fn.self;
}

abbrev pub decreases-loop-mark : goal.decreases-loop-mark
decreases-loop-mark l = l.end - l.mark
