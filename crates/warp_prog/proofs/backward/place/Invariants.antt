-- the place among the reactors that are left, after those before
use Rattle.std.proofs.Common.{◌≡◌, ◌+◌, drop, map}
use Rattle.warp_prog.specs.Backward.{place}
use Rattle.warp_prog.specs.View.{reactor_tree}
use Rattle.warp_prog.proofs.backward.place.Given as goal

abbrev pub invariant-loop-i : goal.invariant-loop-i
invariant-loop-i l = l.i + place (map reactor_tree (drop l.i l.reactors)) l.name ≡ place (map reactor_tree l.reactors) l.name
