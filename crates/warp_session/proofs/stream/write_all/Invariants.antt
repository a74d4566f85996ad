-- What was sent so far is out, and nothing failed.
use Rattle.std.proofs.Common.{◌≡◌, ◌-◌, ◌≤◌, take, length}
use Rattle.std.specs.Io.KnownBytes.{Appends}
use Rattle.warp_session.proofs.stream.write_all.Given as goal

abbrev pub invariant-loop-sent : goal.invariant-loop-sent
invariant-loop-sent g l = record {
  within : l.sent ≤ length l.bytes;
  out : Appends (g.W.Sink.written l.initial.sink) (g.W.Sink.written l.sink) (take l.sent l.bytes);
  sound : g.W.Sink.failures l.sink ≡ g.W.Sink.failures l.initial.sink;
}

abbrev pub decreases-loop-sent : goal.decreases-loop-sent
decreases-loop-sent g l = length l.bytes - l.sent
