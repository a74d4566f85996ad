-- a word of version 4 stands in the reactors that are left exactly if it stands in all
use Rattle.std.proofs.Common.{◌≡◌, drop, map}
use Rattle.warp_prog.specs.Later.{any_uses_later}
use Rattle.warp_prog.specs.View.{reactor_tree}
use Rattle.warp_prog.proofs.later.any_uses_later.Given as goal

abbrev pub invariant-loop-reactor : goal.invariant-loop-reactor
invariant-loop-reactor l = any_uses_later (map reactor_tree (drop l.reactor-index l.reactors)) ≡ any_uses_later (map reactor_tree l.reactors)
