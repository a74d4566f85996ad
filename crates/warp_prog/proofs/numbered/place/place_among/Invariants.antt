-- the place among the things that are left, after those before
use Rattle.std.proofs.Common.{◌≡◌, ◌+◌, drop, map}
use Rattle.warp_prog.specs.Numbered.{place_among}
use Rattle.warp_prog.proofs.numbered.place.place_among.Given as goal

abbrev pub invariant-loop-i : goal.invariant-loop-i
invariant-loop-i g l =
    l.i + place_among (map g.T.Named.called (drop l.i l.things)) l.name ≡ place_among (map g.T.Named.called l.things) l.name
