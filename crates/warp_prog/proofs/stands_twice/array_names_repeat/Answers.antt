use Rattle.std.proofs.Common.{ap, map, List, bytes_eq, ◌∙◌}
use Rattle.std.specs.List.{list_any}
use Rattle.warp_prog.specs.File.{Word}
use Rattle.warp_prog.specs.Twice.{all_names, stands_twice}
use Rattle.warp_prog.specs.View.{array_tree, reactor_tree}
use Rattle.warp_prog.specs.declared.file.Array.{Array}
use Rattle.warp_prog.proofs.ArrayNames.{names_seen}
use Rattle.warp_prog.proofs.stands_twice.array_names_repeat.Goals as goal

pub returns : goal.returns
returns c =
    let twice = stands_twice bytes_eq (all_names (reactor_tree c.args.reactor.now)) in
    c.any_stands_twice.ensures
    ∙ ap (λ (xs : List Array). list_any twice (map (λ (a : Array). (array_tree a).name) xs)) c.deref.ensures.value
    ∙ ap (λ (ns : List Word). list_any twice ns) (names_seen c.args.reactor.now.arrays.items)
