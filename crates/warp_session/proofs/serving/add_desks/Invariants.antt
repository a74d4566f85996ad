use Rattle.std.proofs.Common.{◌≡◌, All, length}
use Rattle.warp_lanes.specs.Engine.{AreFresh, ids_of}
use Rattle.warp_session.specs.Serve.{lanes_of}
use Rattle.warp_session.proofs.serving.add_desks.Given as goal

abbrev pub invariant-loop : goal.invariant-loop
invariant-loop g l =
    (l.reader.board ≡ l.board)
    × (length l.desks.items ≡ l.counter)
    × (length l.lanes.items ≡ l.counter)
    × AreFresh l.lanes.items
    × All (λ desk. desk.form ≡ l.fn.form) l.desks.items
    × (lanes_of l.desks.items ≡ ids_of l.lanes.items)
