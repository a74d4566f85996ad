-- what was brought to the disk is all that was written, and no line waits
use Rattle.std.proofs.Common.{◌++◌, ◌∙◌, List, ℕ, Option, IfSome, sym, subst}
use Rattle.warp_journal.specs.Journal.{Keeps}
use Rattle.warp_journal.specs.Keeping.{OnDisk}
use Rattle.warp_journal.proofs.keeping.Keeper.sync.Goals as goal

pub returns-clause-synced : goal.returns-clause-synced
returns-clause-synced g c = λ first records keeps.
    let written = c.in_ok-count.ensures.written first records keeps in
    let now = c.end_batch.new.self in (
      subst (λ (o : Option (List ℕ)). IfSome o (λ (text : List ℕ). Keeps first now.journal (text ++ now.waiting.items) records))
          (sym c.in_ok-sync.ensures.same) written.0,
      subst (λ (o : Option (List ℕ)). OnDisk first o c.in_ok-count.count records) (sym c.in_ok-sync.ensures.synced) written.1,
    )

pub returns-clause-bytes : goal.returns-clause-bytes
returns-clause-bytes g c = λ first text records keeps.
    c.in_ok-sync.ensures.synced ∙ c.in_ok-count.ensures.bytes first text records keeps
