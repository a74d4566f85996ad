-- the room so far, and how often the name stands in what is left
use Rattle.std.proofs.Common.{◌≡◌, ◌+◌, drop, map}
use Rattle.std.specs.Prelude.{bytes_eq}
use Rattle.warp_prog.specs.Twice.{how_often}
use Rattle.warp_prog.proofs.stands_twice.room_for.Given as goal

abbrev pub invariant-loop-thing : goal.invariant-loop-thing
invariant-loop-thing g l =
    l.left + how_often bytes_eq (map g.T.Named.called l.things) l.name
    ≡ l.room + how_often bytes_eq (map g.T.Named.called (drop l.thing-index l.things)) l.name
