use Rattle.std.proofs.Common.{ℕ, IsTrue, sym}
use borrow.Author.Count.{below_more}
use Rattle.warp_keep.specs.Keeping.{keeps}
use Rattle.warp_keep.proofs.keeping.Keeping.keeps_all.Goals as goal

pub loop-origin-preserved : goal.loop-origin-preserved
loop-origin-preserved c =
    below_more (λ (o : ℕ). IsTrue (keeps c.args.self.now o)) c.loop-origin.origin c.loop-origin.invariant (sym c.if-not-keeps.ensures)
