-- What draining a lane keeps: the linear history of the lanes, and what is known of the board.
use Rattle.std.proofs.Common.{◌≡◌, ℕ, zero, suc, ◌<◌, List, [], ◌∷◌, ◌++◌, length, refl, sym, ap, subst, ◌∙◌, arith, Some, None}
use Rattle.std.specs.Prelude.{slice_get}
use Rattle.std.proofs.Math.ListN.{set}
use Rattle.std.proofs.lemmas.List.Elements.{All-contains, Contains-append_left}
use Rattle.warp_step.specs.Program.{Program}
use Rattle.warp_record.specs.declared.record.Record.{Record}
use Rattle.warp_record.specs.declared.line.Line.{Line}
use Rattle.warp_table.specs.Announced.{IsWithin}
use Rattle.warp_table.specs.Check.{refusal_of}
use Rattle.warp_table.specs.Log.{EachOnce}
use Rattle.warp_table.specs.Records.{set_of}
use Rattle.warp_table.proofs.Announcements.{honest_stays}
use Rattle.warp_table.proofs.Sets.{in_set}
use Rattle.warp_replica.specs.declared.answer.Answer.{Answer}
use Rattle.warp_replica.specs.Answered.{AnswersLine, AreAnswered, TimelineFacts}
use Rattle.warp_replica.specs.History.{IsHistory}
use Rattle.warp_replica.specs.Release.{AreTaken}
use Rattle.warp_replica.specs.Replica.{AreAllowed, ReplicaState}
use Rattle.warp_replica.proofs.AnsweredLines.{lines_begin, lines_program}
use Rattle.warp_replica.proofs.AnsweredLines as answered
use Rattle.warp_replica.proofs.ReleasedLists.{released_stays}
use Rattle.warp_replica.proofs.Replies.{some_answer}
use Rattle.warp_replica.proofs.SomeHorizon.{announces}
use Rattle.warp_board.specs.Board.{WriterState}
use Rattle.warp_lanes.specs.Engine.{AnswersAlone, ids_of}
use Rattle.warp_lanes.specs.Lanes.{LaneId, LaneState, subhistories, subhistory_of}
use Rattle.warp_lanes.specs.Publish.{AreReleased, KeepsBoard}
use Rattle.warp_lanes.proofs.Publishing.{front_of_front}
use Rattle.warp_lanes.proofs.Serving.{changed, is_there}

-- the end's lane is there
pub ids_within : (lanes : List LaneState) (k : ℕ) (id : LaneId) → slice_get (ids_of lanes) k ≡ Some id → k < length lanes
ids_within [] k id e = absurd (grind (e, arith))
ids_within (l ∷ lanes) zero id e = omega arith
ids_within (l ∷ lanes) (suc k) id e = (let short = ids_within lanes k id e in omega (arith, short))

pub id_there : (lanes : List LaneState) (k : ℕ) (lane : LaneState) (id : LaneId) → slice_get lanes k ≡ Some lane → slice_get (ids_of lanes) k ≡ Some id
    → id ≡ lane.lane
id_there [] k lane id e f = absurd (grind (e, arith))
id_there (l ∷ lanes) zero lane id e f =
    let here : l ≡ lane = grind (e, arith) in
    let is : l.lane ≡ id = grind (f, arith) in
    sym is ∙ ap (λ (x : LaneState). x.lane) here
id_there (l ∷ lanes) (suc k) lane id e f = id_there lanes k lane id e f

-- a line that was given alone was answered
pub alone : {T : Type 0} (facts : TimelineFacts T) (r : ReplicaState T) (said : Line) (answer : Answer) (r' : ReplicaState T)
    → AnswersAlone facts r said answer r' → AnswersLine facts r said answer r'
alone facts r said answer r' a = a.answers

-- lines that were answered one after another, each as a relation says by which it was answered: the lanes are a linear history still
pub lines_history : {T : Type 0} (facts : TimelineFacts T) (One : ReplicaState T → Line → Answer → ReplicaState T → Type 0)
    (told : (r : ReplicaState T) (said : Line) (answer : Answer) (r' : ReplicaState T) → One r said answer r' → AnswersLine facts r said answer r')
    (began k : ℕ) (r r' : ReplicaState T) (lanes : List LaneState) (lane : LaneState) (lines : List Line) (made : List Answer)
    → IsHistory r.program r.records began (subhistories lanes) → slice_get lanes k ≡ Some lane → AreAnswered One r lines made r'
    → IsHistory r'.program r'.records began (subhistories (set lanes k (record lane { commands = lane.commands ++ lines; answers = lane.answers ++ made })))
lines_history facts One told began k r r' lanes lane lines made s at a =
    changed r'.program r'.records began lanes k (record lane { commands = lane.commands ++ lines; answers = lane.answers ++ made })
    (answered.lines_history facts One told began k r r' (subhistories lanes) (subhistory_of lane) lines made s (is_there lanes k lane at) a)

-- a set, and one with more records
module _ (P : Program) (records rest : List Record) where
  within_all : IsWithin (set_of records) (set_of (records ++ rest))
  within_all r has = (in_set (records ++ rest) r).0 (Contains-append_left records rest r ((in_set records r).1 has))

  -- while no origin broke an announcement, what is on the board is still released
  released_all : 0 < P.origins → EachOnce records → (w : WriterState) → AreAllowed P (records ++ rest) → AreReleased P records w
      → AreReleased P (records ++ rest) w
  released_all some once w allowed before honest =
      let all = set_of (records ++ rest) in
      let was = before (honest_stays (set_of records) all within_all honest) in
      let a = some_answer P records once (announces P records some) in
      let taken : AreTaken P all =
      λ r has. All-contains (λ x. refusal_of P x ≡ None) (records ++ rest) r allowed ((in_set (records ++ rest) r).1 has) in (
        was.0,
        λ b k. front_of_front b.released a.0.released w.rows
            (released_stays P (set_of records) all all a.0 b honest taken within_all (λ r has. has) a.1 k) (was.1 a.0 a.1),
      )

-- what an engine keeps of its board, of which no row is known to begin what is released
module _ {T : Type 0} (facts : TimelineFacts T) (r r' : ReplicaState T) (lines : List Line) (made : List Answer) (w : WriterState) (known : ℕ) where
  pub lines_board : 0 < r.program.origins → EachOnce r.records → AreAllowed r'.program r'.records → AreAnswered (AnswersAlone facts) r lines made r'
      → KeepsBoard r.program r.records w known → KeepsBoard r'.program r'.records w 0
  lines_board some once allowed a kept =
      let more = lines_begin facts (AnswersAlone facts) (alone facts) r r' lines made a in
      let is = lines_program facts (AnswersAlone facts) (alone facts) r r' lines made a in
      let allowed' : AreAllowed r.program (r.records ++ more.0) =
      subst (λ (l : List Record). AreAllowed r.program l) more.1 (subst (λ (P : Program). AreAllowed P r'.records) is allowed) in
      let now : AreReleased r.program (r.records ++ more.0) w = released_all r.program r.records more.0 some once w allowed' kept.honest in
      record {
        within = omega arith;
        begun = λ live b h. (b.released, refl);
        honest = subst (λ (P : Program). AreReleased P r'.records w) (sym is) (subst (λ (l : List Record). AreReleased r.program l w) (sym more.1) now);
      }
