-- some action that is left exceeds its limits exactly if some of all does
use Rattle.std.proofs.Common.{◌≡◌, drop}
use Rattle.std.specs.List.{list_any}
use Rattle.warp_prog.specs.Limits.{action_exceeds}
use Rattle.warp_prog.proofs.limits.any_action.Given as goal

abbrev pub invariant-loop-i : goal.invariant-loop-i
invariant-loop-i l =
    list_any (action_exceeds l.form) (drop l.i l.actions) ≡ list_any (action_exceeds l.form) l.actions
