-- The replies so far were gathered, and nothing failed.
use Rattle.std.proofs.Common.{◌≡◌, take}
use Rattle.std.specs.List.{flat_map}
use Rattle.warp_record.specs.Reply.{reply_line}
use Rattle.warp_session.proofs.Fronts.{Gathered}
use Rattle.warp_session.proofs.batch.Outbox.gather_all.Given as goal

abbrev pub invariant-loop-at : goal.invariant-loop-at
invariant-loop-at g l = record {
  gathered : Gathered (g.W.Sink.written l.initial.sink) (g.W.Sink.written l.sink) l.initial.self l.self (flat_map reply_line (take l.at l.replies));
  sound : g.W.Sink.failures l.sink ≡ g.W.Sink.failures l.initial.sink;
}
