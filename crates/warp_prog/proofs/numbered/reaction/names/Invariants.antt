-- a target is among those that are left exactly if it is among all
use Rattle.std.proofs.Common.{◌≡◌, drop}
use Rattle.warp_step.specs.Valid.{names}
use Rattle.warp_prog.proofs.numbered.reaction.names.Given as goal

abbrev pub invariant-loop-one : goal.invariant-loop-one
invariant-loop-one l = names (drop l.one-index l.targets) l.target ≡ names l.targets l.target
