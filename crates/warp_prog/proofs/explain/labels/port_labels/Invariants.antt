-- the labels so far
use Rattle.std.proofs.Common.{◌≡◌, map, string_bytes, take}
use Rattle.warp_prog.specs.Explain.{port_called}
use Rattle.warp_prog.specs.View.{reactor_tree}
use Rattle.warp_prog.proofs.explain.labels.port_labels.Given as goal

abbrev pub invariant-loop-thing : goal.invariant-loop-thing
invariant-loop-thing g l =
    map string_bytes l.labels.items
    ≡ map (λ t. port_called (map reactor_tree l.reactors) (g.T.Refers.refers_to t)) (take l.thing-index l.things)
