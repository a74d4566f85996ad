use Rattle.std.proofs.Common.{ℕ, IsTrue, refl, sym, ap, arith}
use Rattle.std.proofs.lemmas.Bool.{false≢true}
use borrow.Author.Count.{below_more}
use Rattle.warp_step.specs.Program.{Program}
use Rattle.warp_table.specs.Records.{set_of}
use Rattle.warp_keep.specs.Judging.{MayBeKept}
use Rattle.warp_keep.specs.Keeping.{keeps}
use Rattle.warp_keep.proofs.keeping.Keeping.may_keep.Goals as goal

pub loop-origin-preserved : goal.loop-origin-preserved
loop-origin-preserved g c =
    below_more (λ (o : ℕ). IsTrue (keeps c.args.self.now o) → MayBeKept (set_of c.args.replica.now.records) o) c.loop-origin.origin
    c.loop-origin.invariant (λ kept. c.if-not-may_be_kept.ensures.0 refl)

pub returns-then-not-may_be_kept : goal.returns-then-not-may_be_kept
returns-then-not-may_be_kept g c = record {
  declared = omega (arith, c.loop-origin-test.true, c.origins-origin-end.ensures, ap (λ (p : Program). p.origins) c.program.ensures);
  kept = sym c.if-not-keeps.ensures;
  may_not = λ may. false≢true (c.if-not-may_be_kept.ensures.1 may);
  first = c.loop-origin.invariant;
}
