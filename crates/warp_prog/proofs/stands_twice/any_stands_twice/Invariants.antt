-- the name of a thing that is left stands twice exactly if that of one of all does
use Rattle.std.proofs.Common.{◌≡◌, drop, map}
use Rattle.std.specs.List.{list_any}
use Rattle.std.specs.Prelude.{bytes_eq}
use Rattle.warp_prog.specs.Twice.{stands_twice, all_names}
use Rattle.warp_prog.specs.View.{reactor_tree}
use Rattle.warp_prog.proofs.stands_twice.any_stands_twice.Given as goal

abbrev pub invariant-loop-thing : goal.invariant-loop-thing
invariant-loop-thing g l =
    list_any (stands_twice bytes_eq (all_names (reactor_tree l.reactor))) (map g.T.Named.called (drop l.thing-index l.things))
    ≡ list_any (stands_twice bytes_eq (all_names (reactor_tree l.reactor))) (map g.T.Named.called l.things)
