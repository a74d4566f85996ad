-- the name of a reactor that is left stands twice exactly if that of one of all does
use Rattle.std.proofs.Common.{◌≡◌, drop, map}
use Rattle.std.specs.List.{list_any}
use Rattle.std.specs.Prelude.{bytes_eq}
use Rattle.warp_prog.specs.Twice.{stands_twice, reactor_names}
use Rattle.warp_prog.specs.View.{reactor_tree}
use Rattle.warp_prog.proofs.stands_twice.reactors_repeat.Given as goal

abbrev pub invariant-loop-reactor : goal.invariant-loop-reactor
invariant-loop-reactor l =
    list_any (stands_twice bytes_eq (reactor_names (map reactor_tree l.reactors))) (reactor_names (map reactor_tree (drop l.reactor-index l.reactors)))
    ≡ list_any (stands_twice bytes_eq (reactor_names (map reactor_tree l.reactors))) (reactor_names (map reactor_tree l.reactors))
