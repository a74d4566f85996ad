-- The bytes so far were taken, and nothing failed.
use Rattle.std.proofs.Common.{◌≡◌, ◌-◌, ◌≤◌, All, take, length}
use Rattle.warp_record.specs.Line.{IsLine}
use Rattle.warp_session.specs.inner.Turns.{MayWait, TakesBytes, at}
use Rattle.warp_session.proofs.desk_session.Transcriber.answer_piece.Given as goal

abbrev pub invariant-loop-at : goal.invariant-loop-at
invariant-loop-at g l = record {
  within : l.at ≤ length l.bytes;
  takes : TakesBytes l.form g.D.Desk.gives (take l.at l.bytes)
      (at (g.D.Desk.state l.initial.desk) l.initial.self (g.W.Sink.written l.initial.sink) (g.W.Sink.failures l.initial.sink))
      (at (g.D.Desk.state l.desk) l.self (g.W.Sink.written l.sink) (g.W.Sink.failures l.sink));
  sound : g.W.Sink.failures l.sink ≡ g.W.Sink.failures l.initial.sink;
  room : MayWait l.together l.self.waits;
  lines : All (IsLine l.form) l.self.waits;
}

abbrev pub decreases-loop-at : goal.decreases-loop-at
decreases-loop-at g l = length l.bytes - l.at
