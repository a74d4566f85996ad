-- what was written ends with the sum
use Rattle.std.proofs.Common.{◌∙◌, List, ℕ, ap}
use Rattle.std.specs.Io.KnownBytes.{append_known}
use Rattle.warp_journal.proofs.keeping.Keeper.end_batch.Goals as goal

pub returns-clause-written : goal.returns-clause-written
returns-clause-written g c = λ first records keeps.
    c.in_ok-count.ensures.written first records (c.in_ok-take_sum.ensures.keeps first records keeps)

pub returns-clause-bytes : goal.returns-clause-bytes
returns-clause-bytes g c = λ first text records keeps.
    let known = g.D.Disk.written c.args.self.now.disk in
    c.in_ok-count.ensures.bytes
    ∙ ap (λ disk. append_known (g.D.Disk.written disk) c.take_sum.new.self.waiting.items) c.take_sum.ensures.disk
    ∙ ap (λ (it : List ℕ). append_known known it) (c.in_ok-take_sum.ensures.line first text records keeps)
