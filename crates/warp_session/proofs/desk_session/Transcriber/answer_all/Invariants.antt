-- The bytes read so far were taken, all replies to their lines are out, and nothing failed.
use Rattle.std.proofs.Common.{◌≡◌, ◌≤◌, ℕ, List, [], length}
use Rattle.std.specs.Io.KnownBytes.{Consumes}
use Rattle.warp_session.specs.Stream.{reads_more}
use Rattle.warp_session.specs.inner.Turns.{Taken, at, nothing_held}
use Rattle.warp_session.proofs.desk_session.Transcriber.answer_all.Given as goal

abbrev pub invariant-reads : goal.invariant-reads
invariant-reads g l = record {
  seen : List ℕ;
  read : Consumes (g.R.Source.left l.initial.source) (g.R.Source.left l.source) seen;
  taken : Taken l.form g.D.Desk.gives seen
      (at (g.D.Desk.state l.initial.desk) nothing_held (g.W.Sink.written l.initial.sink) (g.W.Sink.failures l.initial.sink))
      (at (g.D.Desk.state l.desk) l.self (g.W.Sink.written l.sink) (g.W.Sink.failures l.sink));
  reads : l._read ≤ length seen;
  counted : g.R.Source.reads l.source ≡ reads_more l._read (g.R.Source.reads l.initial.source);
  waits : l.self.waits ≡ [];
  empty : l.self.gathered ≡ [];
  reads_sound : g.R.Source.failures l.source ≡ g.R.Source.failures l.initial.source;
  writes_sound : g.W.Sink.failures l.sink ≡ g.W.Sink.failures l.initial.sink;
}
