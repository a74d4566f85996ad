-- What a room makes of a client's line where it keeps origins, and what the client is told.
use Rattle.std.specs.Prelude.{◌≡◌, ℕ, ◌≤◌, Bool, List, Option, Some, None, codes, length, take}
use Rattle.warp_step.specs.Program.{Program}
use Rattle.warp_record.specs.Reply.{reply_line}
use Rattle.warp_record.specs.declared.line.Line.{Line}
use Rattle.warp_record.specs.declared.line.Line.TheVariants.{Put, Ask, Collect, Look}
use Rattle.warp_record.specs.declared.record.Record.{Record}
use Rattle.warp_keep.specs.Judging.{Judges}
use Rattle.warp_keep.specs.declared.judging.Judgement.{Judgement}
use Rattle.warp_keep.specs.declared.judging.Judgement.TheVariants as judgement
use Rattle.warp_replica.specs.Answered.{AnswersLine, TimelineFacts}
use Rattle.warp_replica.specs.History.{IsGiven}
use Rattle.warp_replica.specs.Replica.{ReplicaState}
use Rattle.warp_room.specs.declared.answers.Outcome.{Outcome}
use Rattle.warp_room.specs.declared.answers.Outcome.TheVariants as outcome

-- what the client is told, as it is written, with its line feed
abbrev pub outcome_line : Outcome → List ℕ
outcome_line (outcome.Replied reply) = reply_line reply
outcome_line outcome.Kept = codes "refused 15\n"
outcome_line outcome.Late = codes "refused 16\n"
outcome_line outcome.Differs = codes "refused 17\n"

-- the line is left to the log: it has no record, or one that is judged so
abbrev pub IsLeft : (ℕ → Bool) → Program → List Record → Line → Type 0
IsLeft keeps P log (Put said) = Judges keeps P log said judgement.Open
IsLeft keeps P log (Ask asked) = Unit {0}
IsLeft keeps P log Collect = Unit {0}
IsLeft keeps P log (Look look) = Unit {0}

-- the line has a record that is judged to be this
abbrev pub HasJudged : (ℕ → Bool) → Program → List Record → Line → Judgement → Type 0
HasJudged keeps P log (Put said) why = Judges keeps P log said why
HasJudged keeps P log (Ask asked) why = ⊥
HasJudged keeps P log Collect why = ⊥
HasJudged keeps P log (Look look) why = ⊥

-- what is told of a record that is judged so, if it is kept out of the log
abbrev pub outcome_of : Judgement → Option Outcome
outcome_of judgement.Open = None
outcome_of judgement.Kept = Some outcome.Kept
outcome_of judgement.Late = Some outcome.Late
outcome_of judgement.Differs = Some outcome.Differs

-- the line has a record that is kept out of the log, and this is told of it
abbrev pub IsKeptOut : (ℕ → Bool) → Program → List Record → Line → Outcome → Type 0
IsKeptOut keeps P log said (outcome.Replied reply) = ⊥
IsKeptOut keeps P log said outcome.Kept = HasJudged keeps P log said judgement.Kept
IsKeptOut keeps P log said outcome.Late = HasJudged keeps P log said judgement.Late
IsKeptOut keeps P log said outcome.Differs = HasJudged keeps P log said judgement.Differs

-- the line is kept out of the log, and the replica stays as it is
abbrev pub KeepsOut : {T : Type 0} → (ℕ → Bool) → Judgement → ReplicaState T → Line → ℕ → ReplicaState T → Type 0
KeepsOut keeps why r said len r' = HasJudged keeps r.program r.records said why × (len ≡ length r.records) × (r' ≡ r)

-- What a line comes to where these origins are kept. One that is left to the log is given to the replica, and answered by its reply.
-- Another changes nothing, and is answered by what its record is judged to be. The answer is of a log of this length.
abbrev pub ComesTo : {T : Type 0} → (ℕ → Bool) → TimelineFacts T → ReplicaState T → Line → ℕ → Outcome → ReplicaState T → Type 0
ComesTo keeps facts r said len (outcome.Replied reply) r' =
    IsLeft keeps r.program r.records said × AnswersLine facts r said (record { len = len; reply = reply }) r'
ComesTo keeps facts r said len outcome.Kept r' = KeepsOut keeps judgement.Kept r said len r'
ComesTo keeps facts r said len outcome.Late r' = KeepsOut keeps judgement.Late r said len r'
ComesTo keeps facts r said len outcome.Differs r' = KeepsOut keeps judgement.Differs r said len r'

-- the line has a record that was judged to be this on the first so many of the log's, by what was kept then
abbrev pub WasJudged : Judgement → Program → List Record → Line → ℕ → Type 0
WasJudged why P log said len = (len ≤ length log) × ((keeps : ℕ → Bool) × HasJudged keeps P (take len log) said why)

-- what is told of the line on a log: the reply that it gave, or what its record was judged to be
abbrev pub IsTold : Program → List Record → Line → ℕ → Outcome → Type 0
IsTold P log said len (outcome.Replied reply) = IsGiven P log said (record { len = len; reply = reply })
IsTold P log said len outcome.Kept = WasJudged judgement.Kept P log said len
IsTold P log said len outcome.Late = WasJudged judgement.Late P log said len
IsTold P log said len outcome.Differs = WasJudged judgement.Differs P log said len
