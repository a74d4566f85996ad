use Rattle.std.proofs.Common.{◌≡◌, ℕ}
use Rattle.http_server.specs.Connection.{config_of, history}
use Rattle.http_server.specs.History.{after_sent}
use Rattle.warp_web.proofs.requests.send.Given as goal

abbrev pub invariant-loop-left : goal.invariant-loop-left
invariant-loop-left l =
    (after_sent (history l.connection) l.left ≡ after_sent (history l.initial.connection) l.count)
    × (config_of l.connection ≡ config_of l.initial.connection)

abbrev pub decreases-loop-left : goal.decreases-loop-left
decreases-loop-left l = l.left
