-- The released outputs that were shown, and what becomes of them when more is released.
use Rattle.std.specs.Prelude.{◌≡◌, Bool, false, true, IsTrue, List}
use Rattle.warp_tag.specs.Lists.{StartsWith}
use Rattle.warp_tag.specs.declared.out.Out.{Out}
use Rattle.warp_step.specs.Program.{Program}
use Rattle.warp_record.specs.declared.record.Record.{Record}
use Rattle.warp_table.specs.Records.{set_of}
use Rattle.warp_replica.specs.Answers.{Answers, AreAnswers}

-- the outputs that were shown, in order, and whether they are frozen
pub record ShownState : Type 0 where
  pub rows : List Out
  pub frozen : Bool

-- What taking on a released list makes of what was shown: all of the list is shown, where it begins with what was
-- shown; else that is frozen. What is frozen stays as it is.
pub record Shows (released : List Out) (s s' : ShownState) : Type 0 where
  pub stays : IsTrue s.frozen → s' ≡ s
  pub grows : s.frozen ≡ false → StartsWith released s.rows → s' ≡ record { rows = released; frozen = false }
  pub freezes : s.frozen ≡ false → ¬ StartsWith released s.rows → s' ≡ record { rows = s.rows; frozen = true }

-- while it is not frozen, what was shown begins what the program releases over this log
abbrev pub AreShownOf : Program → List Record → ShownState → Type 0
AreShownOf P log s = s.frozen ≡ false → (a : Answers) → AreAnswers P (set_of log) a → StartsWith a.released s.rows
