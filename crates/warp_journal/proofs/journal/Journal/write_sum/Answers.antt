-- the line that was written is the sum's
use Rattle.std.proofs.Common.{◌≡◌, ◌∙◌}
use Rattle.warp_journal.specs.Journal.{sum_text}
use Rattle.warp_journal.proofs.GoingOn.{keeps_sum}
use Rattle.warp_journal.proofs.journal.Journal.write_sum.Goals as goal

pub returns-clause-journal : goal.returns-clause-journal
returns-clause-journal c = λ first text records keeps.
    let is_sum : c.deref.result.now ≡ sum_text c.args.self.now.tells_seconds c.args.self.now.count text c.args.second =
    c.deref.ensures.value ∙ c.reserve.ensures.items ∙ c.in_ok-line.ensures text keeps.sum in
    keeps_sum first text c.deref.result.now records c.args.second c.args.self.now c.go_on.new.self keeps is_sum
    (c.go_on.ensures.sum text keeps.sum) c.go_on.ensures.count c.go_on.ensures.seconds
