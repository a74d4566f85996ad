-- the reactions so far are copied
use Rattle.std.proofs.Common.{◌≡◌, map, take}
use Rattle.warp_step.specs.Program.{rule_of}
use Rattle.warp_step.proofs.reaction.copy_reactions.Given as goal

abbrev pub invariant-loop-reaction : goal.invariant-loop-reaction
invariant-loop-reaction l = map rule_of l.copy.items ≡ map rule_of (take l.reaction-index l.reactions)
