-- What a room's log that goes on keeps: that no announcement of a kept origin is broken, and what is released.
use Rattle.std.proofs.Common.{ℕ, Bool, List, sym, subst}
use Rattle.std.specs.Prelude.{IsTrue}
use Rattle.warp_tag.specs.Lists.{StartsWith}
use Rattle.warp_step.specs.Program.{Program}
use Rattle.warp_record.specs.declared.record.Record.{Record}
use Rattle.warp_table.specs.Announced.{IsBroken, IsWithin}
use Rattle.warp_table.specs.Records.{Records, set_of}
use Rattle.warp_keep.specs.Kept.{GoesOn, AreAllKept}
use Rattle.warp_keep.proofs.Honest.{kept_stays, may_start}
use Rattle.warp_keep.proofs.Unbroken.{none_broken}
use Rattle.warp_replica.specs.Answers.{Answers, AreAnswers}
use Rattle.warp_replica.specs.Release.{AreTaken}
use Rattle.warp_replica.specs.Replica.{AreAllowed}
use Rattle.warp_watch.proofs.Shownness.{all_taken, begun_within}
use Rattle.warp_room.specs.Room.{AreKept}

pub still_unbroken : (kept : ℕ → Bool) (log log' : List Record) (origin : ℕ) → IsTrue (kept origin) → GoesOn kept log log'
    → (IsBroken (set_of log) origin → ⊥) → IsBroken (set_of log') origin → ⊥
still_unbroken kept log log' origin is on whole =
    subst (λ (l : List Record). IsBroken (set_of l) origin → ⊥) (sym on.1) (none_broken kept log on.0 origin is whole on.2)

pub still_released : (P : Program) (kept : ℕ → Bool) (log log' : List Record) (S U : Records) (a b : Answers) → AreKept kept P log
    → ((first : List Record) → GoesOn kept first log → GoesOn kept first log') → AreAllKept P kept → AreAllowed P log'
    → IsWithin S U → IsWithin U (set_of log') → AreAnswers P S a → AreAnswers P U b → StartsWith b.released a.released
still_released P kept log log' S U a b k goes all allowed inner outer =
    let on = goes k.first k.goes_on in
    let taken = all_taken P log' allowed in
    let first_taken : AreTaken P (set_of k.first) =
    λ said there. taken said (begun_within log' k.first (on.0, on.1) said there) in
    kept_stays P kept k.first log' S U a b all
    (may_start P (set_of k.first) first_taken (λ origin declared. k.could origin declared (all origin declared))) on taken inner outer
