-- the port of a thing that is left has two sources exactly if that of one of all has
use Rattle.std.proofs.Common.{◌≡◌, drop, map}
use Rattle.std.specs.List.{list_any}
use Rattle.warp_prog.specs.Twice.{stands_twice, same_port, targets}
use Rattle.warp_prog.proofs.stands_twice.any_target_twice.Given as goal

abbrev pub invariant-loop-thing : goal.invariant-loop-thing
invariant-loop-thing g l =
    list_any (stands_twice same_port (targets l.links l.inputs)) (map g.T.Refers.refers_to (drop l.thing-index l.things))
    ≡ list_any (stands_twice same_port (targets l.links l.inputs)) (map g.T.Refers.refers_to l.things)
