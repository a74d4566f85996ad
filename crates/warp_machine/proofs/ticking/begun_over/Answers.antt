use Rattle.std.proofs.Common.{◌≤◌, ℕ, IsTrue, arith}
use borrow.Author.Count.{below_more}
use Rattle.warp_tag.specs.Moment.{Moment}
use Rattle.warp_table.specs.Closed.{ClosesAt}
use Rattle.warp_table.specs.Records.{set_of}
use Rattle.warp_keep.specs.Keeping.{keeps}
use Rattle.warp_machine.proofs.ticking.begun_over.Goals as goal

pub loop-origin-preserved : goal.loop-origin-preserved
loop-origin-preserved g c =
    below_more
    (λ (o : ℕ). IsTrue (keeps c.args.keeping.now o)
    → (closed : Moment) × ClosesAt (set_of c.args.replica.now.records) o closed × (closed.time ≤ c.look_at.new.self.first))
    c.loop-origin.origin
    (λ o below kept.
    let it = c.loop-origin.invariant o below kept in
    (it.0, it.1, omega (arith, it.2, c.look_at.ensures.before)))
    (λ kept. (c.closed_to-closed.result, c.closed_to-closed.ensures, c.look_at.ensures.closed))
