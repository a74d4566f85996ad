-- What was shown begins what is released over the first records of a log.
use Rattle.std.proofs.Common.{false, List, [], ◌++◌, refl, sym, ap, ◌∙◌, append-nil}
use Rattle.std.proofs.lemmas.List.{append_assoc}
use Rattle.warp_step.specs.Program.{Program}
use Rattle.warp_record.specs.declared.record.Record.{Record}
use Rattle.warp_watch.specs.Shown.{AreShownOf, ShownState}
use Rattle.warp_room.specs.Room.{AreShownBefore}

-- nothing is shown yet
pub shown_none : (P : Program) (log : List Record) → AreShownBefore P log (record { rows = []; frozen = false })
shown_none P log = ([], (log, refl), λ live a is. (a.released, refl))

-- it is up to date
pub shown_now : (P : Program) (log : List Record) (shown : ShownState) → AreShownOf P log shown → AreShownBefore P log shown
shown_now P log shown s = (log, ([], sym (append-nil log)), s)

-- the log grew
pub shown_later : (P : Program) (log rest : List Record) (shown : ShownState) → AreShownBefore P log shown → AreShownBefore P (log ++ rest) shown
shown_later P log rest shown s =
    (s.0, (s.1.0 ++ rest, ap (λ l. l ++ rest) s.1.1 ∙ append_assoc s.0 s.1.0 rest), s.2)
