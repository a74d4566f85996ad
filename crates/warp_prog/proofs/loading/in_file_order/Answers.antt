use Rattle.std.proofs.Common.{arith}
use Rattle.std.proofs.lemmas.List.{length-map}
use Rattle.warp_step.specs.Program.{rule_of}
use Rattle.warp_step.specs.View.{program_of}
use Rattle.warp_prog.specs.View.{file_tree}
use Rattle.warp_prog.proofs.CauseLemmas.{few_parts}
use Rattle.warp_prog.proofs.loading.in_file_order.Goals as goal

pub file_order-requires : goal.file_order-requires
file_order-requires c =
    let few = few_parts (file_tree c.args.file.now) (program_of c.in-Ok.parts) c.in-Ok.ensures c.requires.named.limits in
    let size = length-map c.in-Ok.parts.reactions.items rule_of in
    omega (arith, few, size)
