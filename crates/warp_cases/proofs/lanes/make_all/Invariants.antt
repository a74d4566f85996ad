use Rattle.std.proofs.Common.{◌≡◌, [], ◌∷◌}
use Rattle.warp_lanes.specs.Engine.{ids_of}
use Rattle.warp_cases.proofs.lanes.make_all.Given as goal

abbrev pub invariant-loop-line : goal.invariant-loop-line
invariant-loop-line g l =
    (ids_of l.engine.lanes ≡ l.port.lane ∷ [])
    × (l.engine.writer.board ≡ l.board)
    × (l.reader.board ≡ l.board)
