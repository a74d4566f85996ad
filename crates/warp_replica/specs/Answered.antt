-- What a replica that was given a line leaves, and lines one after another.
use Rattle.std.specs.Prelude.{◌≡◌, ◌≢◌, ℕ, ◌≤◌, Bool, false, IsTrue, List, [], ◌∷◌, length, Option}
use Rattle.warp_tag.specs.Limits.{most_records, widest}
use Rattle.warp_tag.specs.Moment.{Moment}
use Rattle.warp_tag.specs.Table.{live}
use Rattle.warp_record.specs.Reply.{IsReply}
use Rattle.warp_record.specs.declared.line.Line.{Line}
use Rattle.warp_record.specs.declared.line.Line.TheVariants.{Collect}
use Rattle.warp_record.specs.declared.reply.Refusal.TheVariants.{NoMemory}
use Rattle.warp_record.specs.declared.reply.Reply.{Reply}
use Rattle.warp_record.specs.declared.reply.Reply.TheVariants.{Refused}
use Rattle.warp_table.specs.LogNames.{table_of}
use Rattle.warp_replica.specs.Floor.{CollectsTo, brings_behind, floor_answered}
use Rattle.warp_replica.specs.Gives.{Gives}
use Rattle.warp_replica.specs.Length.{SaysLength}
use Rattle.warp_replica.specs.Replica.{ReplicaState}
use Rattle.warp_replica.specs.Settling.{LeavesSettled}
use Rattle.warp_replica.specs.declared.answer.Answer.{Answer}

-- what a timeline tells of itself: whether it is settled, that settling it lacked memory, its floor, and how many rows
-- before the horizon collecting may keep
pub record TimelineFacts (T : Type 0) : Type 1 where
  pub settled : T → Bool
  pub refused : T → Type 0
  pub floor : T → Option Moment
  pub slack : ℕ

abbrev pub facts_of : {T : Type 0} → (T → Bool) → (T → Type 0) → (T → Option Moment) → ℕ → TimelineFacts T
facts_of settled refused floor slack = record { settled = settled; refused = refused; floor = floor; slack = slack }

-- A replica was given a line, alone or among others. The reply is in its range, is one that the line may give on the
-- log, and says the length of the log that it leaves; the program stays. A query and `collect` leave it settled, or
-- settling lacked memory. A line other than `collect`, or one refused for want of memory, lets go of nothing; where a
-- new record comes behind what was let go of, nothing is behind any more. Where no live event changed, and no record
-- came behind what was let go of, it stays settled if it was. After a `collect` not refused for want of memory it has
-- let go of the rows before the horizon, but for at most `slack`.
pub record Answered {T : Type 0} (facts : TimelineFacts T) (r : ReplicaState T) (said : Line) (reply : Reply)
    (r' : ReplicaState T) : Type 0 where
  pub gives : Gives r.program r.records said reply r'.records
  pub program : r'.program ≡ r.program
  pub range : IsReply widest reply
  pub says : SaysLength (length r'.records) reply
  pub settles :
      LeavesSettled said reply (facts.settled r.timeline) (facts.settled r'.timeline) (facts.refused r'.timeline)
  pub floor : said ≢ Collect → facts.floor r'.timeline ≡ floor_answered (facts.floor r.timeline) said reply
  pub spared : reply ≡ Refused NoMemory → facts.floor r'.timeline ≡ facts.floor r.timeline
  pub calm : brings_behind (facts.floor r.timeline) said ≡ false →
      live (table_of r'.records) ≡ live (table_of r.records) →
      IsTrue (facts.settled r.timeline) → IsTrue (facts.settled r'.timeline)
  pub collects : said ≡ Collect → reply ≢ Refused NoMemory →
      CollectsTo facts.slack r.program r.records (facts.floor r.timeline) (facts.floor r'.timeline)

-- At the end of lines that were given together what waits is executed: the records stay, nothing is let go of, and the
-- replica is settled, or settling lacked memory. A settled one stays as it is.
pub record EndsBatch {T : Type 0} (facts : TimelineFacts T) (r r' : ReplicaState T) : Type 0 where
  pub program : r'.program ≡ r.program
  pub records : r'.records ≡ r.records
  pub floor : facts.floor r'.timeline ≡ facts.floor r.timeline
  pub settled : facts.settled r'.timeline ≡ false → facts.refused r'.timeline
  pub idle : IsTrue (facts.settled r.timeline) → r' ≡ r

-- an answer in range: so is its reply, and the length that this says is the answer's, which a log may have
abbrev pub IsAnswer : Answer → Type 0
IsAnswer answer = IsReply widest answer.reply × SaysLength answer.len answer.reply × (answer.len ≤ most_records widest)

-- The replica was given a line, alone or among others: it has answered it, and the answer says the length of the log that
-- the line left.
pub record AnswersLine {T : Type 0} (facts : TimelineFacts T) (r : ReplicaState T) (said : Line) (answer : Answer)
    (r' : ReplicaState T) : Type 0 where
  pub given : Answered facts r said answer.reply r'
  pub len : answer.len ≡ length r'.records
  pub fits : IsAnswer answer

-- the replica was given these lines, one after another, each as this relation says
abbrev pub AreAnswered : {T : Type 0} → (ReplicaState T → Line → Answer → ReplicaState T → Type 0) → ReplicaState T
    → List Line → List Answer → ReplicaState T → Type 0
AreAnswered one r [] [] r' = r' ≡ r
AreAnswered {T} one r (said ∷ lines) (answer ∷ answers) r' =
    (next : ReplicaState T) × one r said answer next × AreAnswered one next lines answers r'
AreAnswered one r lines answers r' = ⊥
