-- a reactor that is left has a name twice exactly if one of all has
use Rattle.std.proofs.Common.{◌≡◌, drop, map}
use Rattle.std.specs.List.{list_any}
use Rattle.std.specs.Prelude.{bytes_eq}
use Rattle.warp_prog.specs.Twice.{repeats, all_names}
use Rattle.warp_prog.specs.View.{reactor_tree}
use Rattle.warp_prog.specs.File.{ReactorPart}
use Rattle.warp_prog.proofs.stands_twice.any_names_repeat.Given as goal

abbrev pub invariant-loop-reactor : goal.invariant-loop-reactor
invariant-loop-reactor l =
    list_any (λ (r : ReactorPart). repeats bytes_eq (all_names r)) (map reactor_tree (drop l.reactor-index l.reactors))
    ≡ list_any (λ (r : ReactorPart). repeats bytes_eq (all_names r)) (map reactor_tree l.reactors)
