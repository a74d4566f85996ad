use Rattle.std.proofs.Common.{rules, arith, ◌≡◌, false, [], length, map, replicate, ◌∙◌}
use Rattle.std.proofs.lemmas.List.{length-map}
use Rattle.warp_step.specs.Program.{rule_of}
use Rattle.warp_step.specs.View.{program_of}
use Rattle.warp_prog.specs.inner.Placing.{numbers_of, placed_behind}
use Rattle.warp_prog.proofs.PlacingLemmas.{lists-many, loader-order-is}
use Rattle.warp_prog.proofs.order.place_reactions.Goals as goal

pub place_all-requires-clause-few : goal.place_all-requires-clause-few
place_all-requires-clause-few c =
    let many = lists-many numbers_of c.in_ok-before.before.items (program_of c.args.parts.now) c.in_ok-before.ensures in
    let size = length-map c.args.parts.now.reactions.items rule_of in
    let few = c.requires in
    rw c.deref.ensures.value (omega (arith, many, size, few))

pub returns-clause-order : goal.returns-clause-order
returns-clause-order c =
    let its = c.in_ok-before.before.items in
    let P = program_of c.args.parts.now in
    let many = lists-many numbers_of its P c.in_ok-before.ensures in
    let placed : c.in_ok-placed.placed.items ≡ replicate (length its) false = search rules in
    let all : c.place_all.new.order.items ≡ placed_behind (length its) (map numbers_of its) c.in_ok-placed.placed.items [] = search rules in
    all ∙ loader-order-is P (map numbers_of its) c.in_ok-placed.placed.items (length its) c.in_ok-before.ensures placed many
