-- None of the origins so far that are kept is closed past the first tick.
use Rattle.std.proofs.Common.{ℕ, ◌<◌, ◌≤◌, IsTrue}
use Rattle.warp_tag.specs.Moment.{Moment}
use Rattle.warp_table.specs.Closed.{ClosesAt}
use Rattle.warp_table.specs.Records.{set_of}
use Rattle.warp_keep.specs.Keeping.{keeps}
use Rattle.warp_machine.proofs.ticking.begun_over.Given as goal

abbrev pub invariant-loop-origin : goal.invariant-loop-origin
invariant-loop-origin g l =
    (origin : ℕ) → origin < l.origin → IsTrue (keeps l.keeping origin)
    → (closed : Moment) × ClosesAt (set_of l.replica.records) origin closed × (closed.time ≤ l.began.first)
