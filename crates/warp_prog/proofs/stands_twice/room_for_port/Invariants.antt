-- the room so far, and how often the port stands in what is left
use Rattle.std.proofs.Common.{◌≡◌, ◌+◌, drop, map}
use Rattle.warp_prog.specs.Twice.{how_often, same_port}
use Rattle.warp_prog.proofs.stands_twice.room_for_port.Given as goal

abbrev pub invariant-loop-thing : goal.invariant-loop-thing
invariant-loop-thing g l =
    l.left + how_often same_port (map g.T.Refers.refers_to l.things) l.port
    ≡ l.room + how_often same_port (map g.T.Refers.refers_to (drop l.thing-index l.things)) l.port
