-- What a visit keeps: the linear history of the lanes, and the board.
use Rattle.std.proofs.Common.{◌≡◌, ℕ, zero, suc, ◌<◌, Bool, true, false, List, [], ◌∷◌, length, ap, ◌∙◌, arith, Some, Result, Ok, Err, IsOk, OnOk}
use Rattle.std.specs.Prelude.{slice_get, slice_index_or}
use Rattle.std.proofs.Math.ListN.{set}
use Rattle.warp_step.specs.Program.{Program}
use Rattle.warp_record.specs.declared.record.Record.{Record}
use Rattle.warp_record.specs.declared.line.Line.{Line}
use Rattle.warp_replica.specs.Answered.{TimelineFacts}
use Rattle.warp_replica.specs.History.{IsHistory}
use Rattle.warp_replica.specs.Replica.{ReplicaState}
use Rattle.warp_board.specs.Board.{WriterState}
use Rattle.warp_replica.specs.declared.answer.Answer.{Answer}
use Rattle.warp_lanes.specs.declared.publish.Published.{Published}
use Rattle.warp_lanes.specs.declared.publish.Published.TheVariants.{Rows, Frozen}
use Rattle.warp_lanes.specs.declared.turn.Turn.{Turn}
use Rattle.warp_lanes.specs.declared.turn.Turn.TheVariants.{Served, Empty, Stalled}
use Rattle.warp_lanes.specs.Engine.{AnswersLine, AreAnswered, PublishesIf, VisitsLane}
use Rattle.warp_lanes.specs.Lanes.{IsAnswer, LaneState, subhistories}
use Rattle.warp_lanes.specs.Publish.{Publishes, PublishesEach}
use Rattle.warp_replica.proofs.AnsweredLines.{among, lines_program}
use Rattle.warp_lanes.proofs.DrainedLanes.{lines_history}
use Rattle.warp_lanes.proofs.Serving.{any_free, turn_keeps, turns_id, turns_program}

-- a call that succeeds did what it does where it does
pub on_ok : {X E A : Type 0} (r : Result X E) → IsOk r → OnOk r A → A
on_ok (Ok x) is does = does
on_ok (Err e) is does = absurd (cc (is))

module _ {T : Type 0} (facts : TimelineFacts T) where
  -- each answer may be sent
  pub each_fits : (r r' : ReplicaState T) (lines : List Line) (made : List Answer) → AreAnswered (AnswersLine facts) r lines made r'
      → (i : ℕ) (default : Answer) → i < length made → IsAnswer (slice_index_or made i default)
  each_fits r r' (l ∷ lines) (m ∷ made) a zero default short = a.1.fits
  each_fits r r' (l ∷ lines) (m ∷ made) a (suc i) default short = each_fits a.0 r' lines made a.2 i default (omega (arith, short))
  each_fits r r' [] [] a i default short = absurd (omega (arith, short))
  each_fits r r' [] (m ∷ made) a i default short = absurd a
  each_fits r r' (l ∷ lines) [] a i default short = absurd a

-- publishing keeps the board
published_board : (released : List _) (w w' : WriterState) (published : Published) → Publishes released w published w' → w'.board ≡ w.board
published_board released w w' (Rows count) p = ap (λ (v : WriterState). v.board) p.3
published_board released w w' Frozen p = ap (λ (v : WriterState). v.board) p.1

each_board : (P : Program) (log : List Record) (made : List Answer) (w w' : WriterState) → PublishesEach P log made w w' → w'.board ≡ w.board
each_board P log [] w w' p = ap (λ (v : WriterState). v.board) p
each_board P log (m ∷ made) w w' p = each_board P log made p.0 w' p.2 ∙ published_board p.1.0 w p.0 p.1.2.0 p.1.2.1

board_stays : (settled : Bool) (P : Program) (log : List Record) (made : List Answer) (w w' : WriterState) → PublishesIf settled P log made w w'
    → w'.board ≡ w.board
board_stays true P log made w w' p = each_board P log made w w' p
board_stays false P log made w w' p = ap (λ (v : WriterState). v.board) p

module _ {T : Type 0} (facts : TimelineFacts T) (r r' : ReplicaState T) (lane lane' : LaneState) (w w' : WriterState) where
  pub visits_program : (turn : Turn) → VisitsLane facts r lane w turn r' lane' w' → r'.program ≡ r.program
  visits_program Served (lines, made, between, v) =
      v.ends.program ∙ lines_program facts (AnswersLine facts) (among facts) r between lines made v.answered
  visits_program Empty v = turns_program facts r r' lane lane' Empty v.0
  visits_program Stalled v = turns_program facts r r' lane lane' Stalled v.0

  pub visits_id : (turn : Turn) → VisitsLane facts r lane w turn r' lane' w' → lane'.lane ≡ lane.lane
  visits_id Served (lines, made, between, v) = ap (λ (x : LaneState). x.lane) v.sent
  visits_id Empty v = turns_id facts r r' lane lane' Empty v.0
  visits_id Stalled v = turns_id facts r r' lane lane' Stalled v.0

  pub visits_board : (turn : Turn) → VisitsLane facts r lane w turn r' lane' w' → w'.board ≡ w.board
  visits_board Served (lines, made, between, v) = board_stays _ _ _ _ w w' v.published
  visits_board Empty v = ap (λ (x : WriterState). x.board) v.1
  visits_board Stalled v = ap (λ (x : WriterState). x.board) v.1

  -- a visit keeps what was served
  pub visit_keeps : (began : ℕ) (lanes : List LaneState) (k : ℕ) (turn : Turn) → IsHistory r.program r.records began (subhistories lanes)
      → slice_get lanes k ≡ Some lane → VisitsLane facts r lane w turn r' lane' w' → IsHistory r'.program r'.records began (subhistories (set lanes k lane'))
  visit_keeps began lanes k Served s at (lines, made, between, v) =
      let more = lines_history facts (AnswersLine facts) (among facts) began k r between lanes lane lines made s at v.answered in
      rw (v.ends.program, v.ends.records, v.sent) (any_free between.program between.records began lanes k _ lane'.free more)
  visit_keeps began lanes k Empty s at v = turn_keeps facts r r' began lanes k lane lane' Empty s at v.0
  visit_keeps began lanes k Stalled s at v = turn_keeps facts r r' began lanes k lane lane' Stalled s at v.0
