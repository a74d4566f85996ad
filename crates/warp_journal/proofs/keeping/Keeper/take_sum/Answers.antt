-- the line is the sum's
use Rattle.std.proofs.Common.{◌++◌, List, ℕ, ap, ◌∙◌}
use Rattle.warp_journal.specs.Journal.{line_of}
use Rattle.warp_journal.proofs.GoingOn.{same_sum}
use Rattle.warp_journal.proofs.keeping.Keeper.take_sum.Goals as goal

pub returns-in-Ok-clause-line : goal.returns-in-Ok-clause-line
returns-in-Ok-clause-line g c = λ first text records keeps.
    c.in-Ok.ensures.line text keeps.sum
    ∙ ap (λ (it : List ℕ). c.args.self.now.waiting.items ++ line_of it)
    (same_sum first text records c.args.self.now.journal c.args.second keeps)
