-- the reactions before are the same
use Rattle.std.proofs.Common.{◌≡◌, map, take}
use Rattle.warp_step.specs.Program.{rule_of}
use Rattle.warp_step.proofs.reaction.same_reactions.Given as goal

abbrev pub invariant-loop-i : goal.invariant-loop-i
invariant-loop-i l = map rule_of (take l.i l.a) ≡ map rule_of (take l.i l.b)
