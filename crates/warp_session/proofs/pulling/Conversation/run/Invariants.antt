-- The replies so far, which the lines that came spell, led to what is, pulling went on behind each of them, and nothing failed.
use Rattle.std.proofs.Common.{◌≡◌, ℕ, ◌+◌, ◌≤◌, List, length}
use Rattle.warp_session.specs.Pull.{Heard, PullsAll, AllGoOn, last_levels}
use Rattle.warp_session.specs.Stream.{reads_more}
use Rattle.warp_session.specs.inner.Inbox.{pending, waiting}
use Rattle.warp_session.proofs.WentLemmas.{Talked}
use Rattle.warp_session.proofs.pulling.Conversation.run.Given as goal

abbrev pub invariant-turns : goal.invariant-turns
invariant-turns g l = record {
  heard : List Heard;
  pulls : PullsAll g.D.Desk.gives (g.D.Desk.state l.initial.desk) 1 heard l.self.puller (g.D.Desk.state l.desk);
  talked : Talked l.form (g.R.Source.left l.initial.source) (g.R.Source.left l.source)
      (g.W.Sink.written l.initial.sink) (g.W.Sink.written l.sink) heard (pending l.self.waits l.self.puller) l.self.inbox;
  goes : AllGoOn l.quiet 0 heard;
  levels : l.self.levels ≡ last_levels 0 heard;
  few : l.self.levels ≤ l._turn;
  count : ℕ;
  turns : l._turn ≡ (length heard + waiting l.self.waits) + count;
  counted : g.R.Source.reads l.source ≡ reads_more count (g.R.Source.reads l.initial.source);
  reads_sound : g.R.Source.failures l.source ≡ g.R.Source.failures l.initial.source;
  writes_sound : g.W.Sink.failures l.sink ≡ g.W.Sink.failures l.initial.sink;
}
