use Rattle.std.proofs.Common.{ap, map, subst, List, ℕ, bytes_eq, SomeIff, ◌≤◌, ◌-◌, ◌∙◌}
use Rattle.warp_prog.specs.File.{Word}
use Rattle.warp_prog.specs.Twice.{how_often}
use Rattle.warp_prog.specs.View.{array_tree}
use Rattle.warp_prog.specs.declared.file.Array.{Array}
use Rattle.warp_prog.proofs.ArrayNames.{names_seen}
use Rattle.warp_prog.proofs.stands_twice.room_for_array_name.Goals as goal

pub returns : goal.returns
returns c =
    let name = c.args.name.now in
    let room = c.args.room in
    let same =
    ap (λ (xs : List Array). how_often bytes_eq (map (λ (a : Array). (array_tree a).name) xs) name) c.deref.ensures.value
    ∙ ap (λ (ns : List Word). how_often bytes_eq ns name) (names_seen c.args.reactor.now.arrays.items) in
    subst (λ (n : ℕ). SomeIff c.room_for.result (n ≤ room) (room - n)) same c.room_for.ensures
