use Rattle.std.proofs.Common.{ap, map, List, ◌∙◌}
use Rattle.warp_prog.specs.File.{Word}
use Rattle.warp_prog.specs.Uses.{is_among}
use Rattle.warp_prog.specs.View.{array_tree}
use Rattle.warp_prog.specs.declared.file.Array.{Array}
use Rattle.warp_prog.proofs.ArrayNames.{names_seen}
use Rattle.warp_prog.proofs.role.is_array.Goals as goal

pub returns : goal.returns
returns c =
    let name = c.args.name.now in
    c.is_among.ensures
    ∙ ap (λ (xs : List Array). is_among (map (λ (a : Array). (array_tree a).name) xs) name) c.deref.ensures.value
    ∙ ap (λ (ns : List Word). is_among ns name) (names_seen c.args.reactor.now.arrays.items)
