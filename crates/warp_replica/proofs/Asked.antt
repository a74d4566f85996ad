-- What a replica leaves that was asked, by what its calls left.
use Rattle.std.proofs.Common.{◌≡◌, arith, length, None, ap}
use Rattle.warp_tag.specs.Table.{live}
use Rattle.warp_step.specs.Snapshot.{start_state}
use Rattle.warp_step.proofs.TraceLemmas.{one_rest}
use Rattle.warp_record.specs.Reply.{IsReply}
use Rattle.warp_record.specs.declared.line.Line.TheVariants.{Ask}
use Rattle.warp_record.specs.declared.line.Query.{Query}
use Rattle.warp_record.specs.declared.reply.Reply.{Reply}
use Rattle.warp_tag.specs.Limits.{widest}
use Rattle.warp_line.specs.Timeline.{IsDone, Settles, Standing}
use Rattle.warp_table.specs.Log.{EachOnce}
use Rattle.warp_replica.specs.Answered.{Answered, TimelineFacts}
use Rattle.warp_replica.specs.Gives.{Gives}
use Rattle.warp_replica.specs.Replica.{ReplicaState}
use Rattle.warp_replica.specs.Settling.{SettlesOrRefuses}
use Rattle.warp_replica.proofs.Lengths.{says_length}

-- rows that are done need no settling
pub all_done : {V : Type 0} (stands_for : V → Standing → Type 0) (value : V) (m : Standing) → stands_for value m → IsDone m
    → Settles stands_for value m 0 m.done
all_done stands_for value m stands run = record {
  stands = stands;
  kept = omega arith;
  bound = λ trace other.
      let same = ap length (one_rest m.program (live m.table) None (start_state m.program) trace m.done other run) in
      omega (arith, same);
}

-- a query that was answered, or refused for want of memory
pub query_answered : {T : Type 0} (facts : TimelineFacts T) (r r' : ReplicaState T) → EachOnce r.records → r'.program ≡ r.program
    → (asked : Query) (answer : Reply) → Gives r.program r.records (Ask asked) answer r'.records → IsReply widest answer
    → SettlesOrRefuses answer (facts.settled r.timeline) (facts.settled r'.timeline) (facts.refused r'.timeline)
    → facts.floor r'.timeline ≡ facts.floor r.timeline → Answered facts r (Ask asked) answer r'
query_answered facts r r' once program asked answer gives range settles floor = record {
  gives = gives;
  program = program;
  range = range;
  says = says_length r.program r.records (Ask asked) answer r'.records once gives;
  settles = settles;
  floor = λ other. floor;
  spared = λ refused. floor;
  calm = λ ahead same was. settles.0 was;
  collects = λ collect. absurd (cc (collect));
}
