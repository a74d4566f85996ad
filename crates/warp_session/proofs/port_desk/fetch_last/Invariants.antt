-- As many answers as replies are written were fetched behind those that nobody asks for, and no more than were missing.
use Rattle.std.proofs.Common.{◌≡◌, ◌<◌, ◌≤◌, length}
use Rattle.warp_session.proofs.FetchedLemmas.{HasFetched}
use Rattle.warp_session.proofs.port_desk.fetch_last.Given as goal

abbrev pub invariant-loop-at : goal.invariant-loop-at
invariant-loop-at g l = record {
  places : length l.replies ≡ length l.initial.replies;
  fetched : HasFetched l.initial.port l.at l.replies l.port;
  level : 0 < l.at → length l.port.fetched ≤ length l.port.sent;
}
