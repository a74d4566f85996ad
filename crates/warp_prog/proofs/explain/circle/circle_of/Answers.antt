-- proofs/explain/circle/circle_of/Answers.antt
use Rattle.std.proofs.Common.{◌∙◌, sym, arith}
use Rattle.std.proofs.lemmas.List.{length-map}
use Rattle.warp_step.specs.Program.{rule_of}
use Rattle.warp_step.specs.View.{program_of}
use Rattle.warp_prog.specs.View.{file_tree}
use Rattle.warp_prog.proofs.CauseLemmas.{few_parts}
use Rattle.warp_prog.proofs.explain.circle.circle_of.Goals as goal

pub circle_in-requires : goal.circle_in-requires
circle_in-requires c =
    let few =
    few_parts (file_tree c.args.file.now) (program_of c.in_ok-parts.parts) c.in_ok-parts.ensures (sym c.is_past_limits.ensures ∙ c.if-is_past_limits.false) in
    let size = length-map c.in_ok-parts.parts.reactions.items rule_of in
    omega (arith, few, size)
