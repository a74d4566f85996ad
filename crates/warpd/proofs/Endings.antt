-- How a session ended, by its end; and how a run did that printed a text.
use Rattle.std.proofs.Common.{◌≡◌, ◌≤◌, ℕ, List, length, inl, inr, refl}
use Rattle.std.specs.Prelude.{IfSome, Result, Ok, Err, OnErr, OnOk, MatchResult}
use Rattle.std.specs.Io.KnownBytes.{Appends}
use Rattle.warp_tag.specs.Limits.{most_reads}
use Rattle.warp_step.specs.Program.{Program}
use Rattle.warp_session.specs.LocalSession.{TranscribesAll, TranscribesSoFar, TranscribesSome}
use Rattle.warpd.specs.Outcome.{IsPrinted, WritesSo, Seen}
use Rattle.warpd.specs.declared.outcome.Outcome.{Outcome}
use Rattle.warpd.specs.declared.outcome.Outcome.TheVariants.{Done, Output}
use Rattle.warp_session.specs.Stream.{CountsFailures, WritesFront}
use Rattle.warp_session.specs.declared.desk_session.SessionEnd.{SessionEnd}
use Rattle.warp_session.specs.declared.desk_session.SessionEnd.TheVariants.{End, ReadFault, WriteFault, TooManyReads, NoMemory}

pub writes_so : (P : Program) (before after : Seen) (end : SessionEnd)
    → (end ≡ End → TranscribesAll P before.left before.written after.written)
    → (end ≡ ReadFault → TranscribesSoFar P before.left after.left before.written after.written)
    → (end ≡ WriteFault → TranscribesSome P before.left after.left before.written after.written)
    → (end ≡ TooManyReads → TranscribesSoFar P before.left after.left before.written after.written)
    → (end ≡ TooManyReads → IfSome before.left (λ input. most_reads ≤ length input))
    → (end ≡ NoMemory → after ≡ before)
    → WritesSo P before after end
writes_so P before after End bytes lines front long many memory = bytes refl
writes_so P before after ReadFault bytes lines front long many memory = lines refl
writes_so P before after WriteFault bytes lines front long many memory = front refl
writes_so P before after TooManyReads bytes lines front long many memory = (long refl, many refl)
writes_so P before after NoMemory bytes lines front long many memory = memory refl

-- a text that was written is printed, and one that wasn't is an output that failed
pub printed : {T E : Type 0} (text : List ℕ) (before after : Seen) (answer : Result T E) (outcome : Outcome)
    → after.left ≡ before.left → after.failed_reads ≡ before.failed_reads → OnOk answer (Appends before.written after.written text)
    → OnErr answer (WritesFront before.written after.written text)
    → CountsFailures before.failed_writes after.failed_writes answer → MatchResult answer (λ _. outcome ≡ Done) (λ _. outcome ≡ Output)
    → IsPrinted text before after outcome
printed text before after (Ok answer) outcome left reads out front counts told = (left, reads, inl (told, out, counts))
printed text before after (Err answer) outcome left reads out front counts told = (left, reads, inr (told, front, counts))
