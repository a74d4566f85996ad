-- The origins below this one have their words.
use Rattle.std.proofs.Common.{◌≡◌, ◌∷◌, ◌++◌, decimal}
use Rattle.std.specs.List.{flat_map}
use Rattle.warp_table.specs.Records.{set_of}
use Rattle.warp_replica.specs.Answers.{Answers, AreAnswers}
use Rattle.warp_watch.specs.Lines.{broken_below}
use Rattle.warp_watch.proofs.lines.add_broken.Given as goal

abbrev pub invariant-loop-origin : goal.invariant-loop-origin
invariant-loop-origin g l =
    (a : Answers) → AreAnswers l.replica.program (set_of l.replica.records) a
    → l.text.items ≡ l.initial.text.items ++ flat_map (λ origin. 32 ∷ decimal origin) (broken_below a.broken l.origin)
