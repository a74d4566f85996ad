-- a port that is left stands twice exactly if one of all does
use Rattle.std.proofs.Common.{◌≡◌, drop}
use Rattle.std.specs.List.{list_any}
use Rattle.warp_prog.specs.Twice.{stands_twice, same_port}
use Rattle.warp_prog.proofs.stands_twice.outputs_repeat.Given as goal

abbrev pub invariant-loop-port : goal.invariant-loop-port
invariant-loop-port l =
    list_any (stands_twice same_port l.outputs) (drop l.port-index l.outputs) ≡ list_any (stands_twice same_port l.outputs) l.outputs
