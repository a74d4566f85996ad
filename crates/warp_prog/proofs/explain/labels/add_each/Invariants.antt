-- the labels so far, and then those of the things that are left, are those before and those of all
use Rattle.std.proofs.Common.{◌≡◌, ◌++◌, drop, map, string_bytes}
use Rattle.warp_prog.specs.Explain.{label_of}
use Rattle.warp_prog.specs.View.{reactor_tree}
use Rattle.warp_prog.proofs.explain.labels.add_each.Given as goal

abbrev pub invariant-loop-thing : goal.invariant-loop-thing
invariant-loop-thing g l =
    let its = label_of (reactor_tree l.reactor) in
    map string_bytes l.labels.items ++ map its (map g.T.Named.called (drop l.thing-index l.things))
    ≡ map string_bytes l.fn.labels.items ++ map its (map g.T.Named.called l.things)
