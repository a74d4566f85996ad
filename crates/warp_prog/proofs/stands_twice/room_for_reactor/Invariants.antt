-- the room so far, and how often the name stands in what is left
use Rattle.std.proofs.Common.{◌≡◌, ◌+◌, drop, map}
use Rattle.std.specs.Prelude.{bytes_eq}
use Rattle.warp_prog.specs.Twice.{how_often, reactor_names}
use Rattle.warp_prog.specs.View.{reactor_tree}
use Rattle.warp_prog.proofs.stands_twice.room_for_reactor.Given as goal

abbrev pub invariant-loop-reactor : goal.invariant-loop-reactor
invariant-loop-reactor l =
    l.left + how_often bytes_eq (reactor_names (map reactor_tree l.reactors)) l.name
    ≡ l.room + how_often bytes_eq (reactor_names (map reactor_tree (drop l.reactor-index l.reactors))) l.name
