-- the targets so far, and then those of the names that are left, are those of all names
use Rattle.std.proofs.Common.{◌≡◌, drop, map}
use Rattle.warp_prog.specs.Numbered.{readable, once, once_after}
use Rattle.warp_prog.specs.View.{reactor_tree}
use Rattle.warp_prog.proofs.numbered.reaction.all_readable.Given as goal

abbrev pub invariant-loop-name : goal.invariant-loop-name
invariant-loop-name l =
    once_after l.targets.items (map (readable l.before (reactor_tree l.reactor)) (drop l.name-index l.names))
    ≡ once (map (readable l.before (reactor_tree l.reactor)) l.names)
