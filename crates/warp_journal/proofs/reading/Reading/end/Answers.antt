-- all bytes that came
use Rattle.std.proofs.Common.{◌∙◌, arith, refl}
use Rattle.warp_journal.proofs.Ends.{not_whole, read_whole}
use Rattle.warp_journal.proofs.reading.Reading.end.Goals as goal

pub returns-then-self-len-clause-other : goal.returns-then-self-len-clause-other
returns-then-self-len-clause-other c = (
  refl,
  λ form first bytes records reads behind is.
      not_whole form first bytes behind records c.args.self
      (omega (arith, c.if-self-len.true, c.len.ensures ∙ c.args.self.first.ok.0)) reads is,
)

pub returns-clause-read : goal.returns-clause-read
returns-clause-read c = λ form first bytes records reads.
    read_whole form first bytes records c.args.self _ (omega (arith, c.if-self-len.false, c.len.ensures ∙ c.args.self.first.ok.0))
    refl refl refl refl c.ending-ending.ensures reads
