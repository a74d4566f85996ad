use Rattle.std.proofs.Common.{List, length}
use Rattle.warp_tag.specs.Table.{Event}
use Rattle.warp_step.specs.Program.{Program}
use Rattle.warp_step.specs.Run.{Row}
use Rattle.warp_run.specs.Aside.{IsMet}
use Rattle.warp_run.specs.Tip.{AreFew, ExecutesMore, HasExecuted}
use Rattle.warp_run.proofs.tip.Tip.rejoin.Given as goal

-- so far rows were gone over, and the run is at the earliest checkpoint that is left
abbrev pub invariant-loop : goal.invariant-loop
invariant-loop l = record {
  at : (P : Program) × (E : List Event) × (done : List Row) × HasExecuted P E l.self done × AreFew P E;
  on : ExecutesMore l.fn.self l.self;
  met : IsMet l.self.last l.self.state l.self.aside.history.saves;
}

abbrev pub decreases-loop : goal.decreases-loop
decreases-loop l = length l.self.aside.history.saves
