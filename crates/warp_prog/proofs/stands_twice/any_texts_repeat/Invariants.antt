-- a reactor that is left calls or hides something twice exactly if one of all does
use Rattle.std.proofs.Common.{◌≡◌, drop, map}
use Rattle.std.specs.List.{list_any}
use Rattle.warp_prog.specs.Twice.{texts_twice}
use Rattle.warp_prog.specs.View.{reactor_tree}
use Rattle.warp_prog.proofs.stands_twice.any_texts_repeat.Given as goal

abbrev pub invariant-loop-reactor : goal.invariant-loop-reactor
invariant-loop-reactor l =
    list_any texts_twice (map reactor_tree (drop l.reactor-index l.reactors)) ≡ list_any texts_twice (map reactor_tree l.reactors)
