-- a name is among the things that are left exactly if it is among all
use Rattle.std.proofs.Common.{◌≡◌, drop, map}
use Rattle.warp_prog.specs.Uses.{is_among}
use Rattle.warp_prog.proofs.named.is_among.Given as goal

abbrev pub invariant-loop-thing : goal.invariant-loop-thing
invariant-loop-thing g l =
    is_among (map g.T.Named.called (drop l.thing-index l.things)) l.name ≡ is_among (map g.T.Named.called l.things) l.name
