-- What a line gives on a log: a program, and the records in the order of taking.
use Rattle.std.specs.Prelude.{◌≡◌, ◌⊎◌, ℕ, zero, suc, ◌+◌, ◌<◌, Bool, true, false, List, [], ◌∷◌, ◌++◌, length}
use Rattle.std.specs.Prelude.{Contains, slice_get, Option, Some, None, Result, Ok, Err, if◌then◌else◌}
use Rattle.std.specs.Option.{option_map, unwrap_or}
use Rattle.warp_tag.specs.Limits.{has_joint, last_microstep, most_records, wider}
use Rattle.warp_tag.specs.Moment.{Moment}
use Rattle.warp_tag.specs.declared.form.Form.{Form}
use Rattle.warp_step.specs.Program.{Program}
use Rattle.warp_step.specs.Events.{is_declared}
use Rattle.warp_record.specs.declared.record.Record.{Record}
use Rattle.warp_record.specs.declared.record.Record.TheVariants.{Event, Withdraw, Announce, Joint}
use Rattle.warp_record.specs.declared.line.Query.{Query}
use Rattle.warp_record.specs.declared.line.Query.TheVariants as query
use Rattle.warp_record.specs.declared.line.Line.{Line}
use Rattle.warp_record.specs.declared.line.Line.TheVariants as line
use Rattle.warp_record.specs.declared.reply.Refusal.{Refusal}
use Rattle.warp_record.specs.declared.reply.Refusal.TheVariants.{NoOrigin, NoVar, LogFull, NoMemory, NoBoard}
use Rattle.warp_record.specs.declared.reply.Reply.{Reply}
use Rattle.warp_record.specs.declared.reply.Reply.TheVariants as reply
use Rattle.warp_table.specs.Records.{set_of}
use Rattle.warp_table.specs.Log.{IsAt}
use Rattle.warp_table.specs.Check.{refusal_of}
use Rattle.warp_replica.specs.Answers.{Answers, AreAnswers}
use Rattle.warp_replica.specs.declared.taking.Took.{Took}
use Rattle.warp_replica.specs.declared.taking.Took.TheVariants.{New, Known}

-- the tag of a record
abbrev pub tag_of : Record → Moment
tag_of (Event origin tag input value) = tag
tag_of (Withdraw origin tag) = tag
tag_of (Announce origin tag events withdrawn) = tag
tag_of (Joint tag events withdrawn) = tag

-- the program has no reason against the record, and the log lacks it
abbrev pub IsNew : Program → List Record → Record → Type 0
IsNew P records said = (refusal_of P said ≡ None) × (¬ Contains records said)

-- why a new record may not come into a log of a form: it is full; or it is not, and want of memory is told
abbrev pub LacksRoom : Form → List Record → Refusal → Type 0
LacksRoom f records LogFull = length records ≡ most_records f
LacksRoom f records NoMemory = length records < most_records f
LacksRoom f records other = ⊥

-- How a record may be taken, and what the log is then: as the last one where it is new, at its place where it is known,
-- and else not at all, for the program's first reason against it or for want of room.
abbrev pub Takes : Program → List Record → Record → Result Took Refusal → List Record → Type 0
Takes P records said (Ok (New place)) records' =
    IsNew P records said × (length records < most_records P.form) × (place ≡ length records + 1)
    × (records' ≡ records ++ said ∷ [])
Takes P records said (Ok (Known place)) records' =
    (refusal_of P said ≡ None) × IsAt records place said × (records' ≡ records)
Takes P records said (Err refusal) records' =
    ((refusal_of P said ≡ Some refusal) ⊎ (IsNew P records said × LacksRoom P.form records refusal)) × (records' ≡ records)

-- the record came in
abbrev pub came_in : Result Took Refusal → Bool
came_in (Ok (New place)) = true
came_in (Ok (Known place)) = false
came_in (Err refusal) = false

-- the reply that tells how a record was taken
abbrev pub told : Result Took Refusal → Reply
told (Ok (New place)) = reply.Taken place
told (Ok (Known place)) = reply.Known place
told (Err refusal) = reply.Refused refusal

-- the record at this place of a log, counted from 1
abbrev pub record_at : List Record → ℕ → Option Record
record_at records zero = None
record_at records (suc index) = slice_get records index

-- The reply to a query, by the answers of a set of records; the places in `log` are those of the list alone. Where
-- there is no such variable it is refusal 6, where the program has no such origin, or no joint announcements, refusal 2,
-- and where there is no such output or place `none`.
abbrev pub reply_to : Program → List Record → Answers → Query → Reply
reply_to P records a (query.Var number) =
    unwrap_or (option_map (λ value. reply.Var a.count value) (slice_get a.state.vars number)) (reply.Refused NoVar)
reply_to P records a query.Outputs = reply.Outputs a.count (length a.outputs)
reply_to P records a (query.Output number) =
    unwrap_or (option_map (λ out. reply.Output a.count out) (slice_get a.outputs number)) (reply.Nothing a.count)
reply_to P records a query.Horizon = reply.Horizon a.count a.horizon
reply_to P records a query.Released = reply.Released a.count (length a.released)
reply_to P records a query.Lost = reply.Lost a.count a.state.lost
reply_to P records a (query.Breach origin) =
    if is_declared P origin then reply.Breach a.count (a.broken origin) else reply.Refused NoOrigin
reply_to P records a query.JointBreach =
    if has_joint P.form then reply.Breach a.count a.broken_jointly else reply.Refused NoOrigin
reply_to P records a (query.Log place) =
    unwrap_or (option_map (λ said. reply.Log a.count said) (record_at records place)) (reply.Nothing a.count)

-- the query asks for a place of the log, which depends on the order of taking
abbrev pub AsksPlace : Query → Type 0
AsksPlace (query.Log place) = Unit {0}
AsksPlace other = ⊥

-- what a query gives: the reply by the answers of the log's set
abbrev pub GivesQuery : Program → List Record → Query → Reply → Type 0
GivesQuery P records asked answer =
    (a : Answers) × AreAnswers P (set_of records) a × (answer ≡ reply_to P records a asked)

-- raising the program to this form leaves the replies over the log as they are: times have as many microsteps as before,
-- or nothing was lost
abbrev pub KeepsReplies : Form → Program → List Record → Type 0
KeepsReplies f P records =
    (last_microstep (wider f P.form) ≡ last_microstep P.form)
    ⊎ ((log : ℕ) × GivesQuery P records query.Lost (reply.Lost log 0))

-- raising the program to this form leaves what the query asks of: whether a joint announcement is broken is asked of a
-- program that has such, and is refused by one that has none
abbrev pub KeepsAsked : Form → Program → Query → Type 0
KeepsAsked f P query.JointBreach = has_joint (wider f P.form) ≡ has_joint P.form
KeepsAsked f P other = Unit {0}

-- On this log of this program the line may give this reply, and leave this log. Want of memory may stand before any
-- query, before collecting, and where a new record would be taken. There is no board here.
abbrev pub Gives : Program → List Record → Line → Reply → List Record → Type 0
Gives P records (line.Put said) answer records' =
    (result : Result Took Refusal) × Takes P records said result records' × (answer ≡ told result)
Gives P records (line.Ask asked) answer records' =
    (GivesQuery P records asked answer ⊎ (answer ≡ reply.Refused NoMemory)) × (records' ≡ records)
Gives P records line.Collect answer records' =
    ((answer ≡ reply.Collected (length records)) ⊎ (answer ≡ reply.Refused NoMemory)) × (records' ≡ records)
Gives P records (line.Look look) answer records' = (answer ≡ reply.Refused NoBoard) × (records' ≡ records)
