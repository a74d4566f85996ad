-- There are as many reactions as rules.
use Rattle.std.proofs.Common.{ap, length, sym, ◌∙◌}
use Rattle.std.proofs.lemmas.List.{length-map}
use Rattle.warp_step.specs.Program.{rule_of}
use Rattle.warp_prog.proofs.explain.account.reaction_count.Goals as goal

pub returns : goal.returns
returns c = sym (length-map c.reactions.result.now rule_of) ∙ ap length c.reactions.ensures
