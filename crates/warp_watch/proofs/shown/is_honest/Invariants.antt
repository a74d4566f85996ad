-- None of the origins below this one is broken.
use Rattle.std.proofs.Common.{◌≡◌, ◌<◌, ℕ, false}
use Rattle.warp_table.specs.Records.{set_of}
use Rattle.warp_replica.specs.Answers.{Answers, AreAnswers}
use Rattle.warp_watch.proofs.shown.is_honest.Given as goal

abbrev pub invariant-loop-origin : goal.invariant-loop-origin
invariant-loop-origin g l =
    (a : Answers) → AreAnswers l.replica.program (set_of l.replica.records) a
    → (origin : ℕ) → origin < l.origin → a.broken origin ≡ false
