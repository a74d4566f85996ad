-- some target that is left is marked exactly if some target is
use Rattle.std.proofs.Common.{◌≡◌, drop}
use Rattle.std.specs.List.{list_any}
use Rattle.warp_prog.specs.inner.Spread.{is_marked}
use Rattle.warp_prog.proofs.explain.waits.has_one.Given as goal

abbrev pub invariant-loop-target : goal.invariant-loop-target
invariant-loop-target l = list_any (is_marked l.marks) (drop l.target-index l.targets) ≡ list_any (is_marked l.marks) l.targets
