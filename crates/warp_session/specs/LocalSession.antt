-- The session of one replica, from the log that has no record.
use Rattle.std.specs.Prelude.{ℕ, List, [], Option, IfSome}
use Rattle.std.specs.Io.KnownBytes.{Appends}
use Rattle.warp_step.specs.Program.{Program}
use Rattle.warp_record.specs.declared.record.Record.{Record}
use Rattle.warp_replica.specs.Gives.{Gives}
use Rattle.warp_session.specs.Session.{Session, TranscribesFront, TranscribesLines}

-- of a source that tells its bytes, the transcript of all of them from the empty log was written behind what the sink tells,
-- whatever log it leaves
abbrev pub TranscribesAll : Program → Option (List ℕ) → Option (List ℕ) → Option (List ℕ) → Type 0
TranscribesAll P left written written-after = IfSome left (λ input.
    (text : List ℕ) × (log : List Record) × Session P.form (Gives P) [] input text log × Appends written written-after text)

-- the same, where a read failed or too many came to no end, of the whole lines that the source lost, and of the line behind them nothing
abbrev pub TranscribesSoFar : Program → Option (List ℕ) → Option (List ℕ) → Option (List ℕ) → Option (List ℕ) → Type 0
TranscribesSoFar P left left-after written written-after =
    (log : List Record) × TranscribesLines P.form (Gives P) [] left left-after written written-after log

-- the same, where a write failed, of a front of the replies to some first lines of those that the source lost
abbrev pub TranscribesSome : Program → Option (List ℕ) → Option (List ℕ) → Option (List ℕ) → Option (List ℕ) → Type 0
TranscribesSome P left left-after written written-after =
    (log : List Record) × TranscribesFront P.form (Gives P) [] left left-after written written-after log
