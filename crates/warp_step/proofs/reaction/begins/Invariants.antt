-- some reaction that is left is triggered by startup exactly if some reaction is
use Rattle.std.proofs.Common.{◌≡◌, map, drop}
use Rattle.std.specs.List.{list_any}
use Rattle.warp_step.specs.Program.{rule_of}
use Rattle.warp_step.specs.Valid.{names}
use Rattle.warp_body.specs.declared.place.Target.TheVariants as to
use Rattle.warp_step.proofs.reaction.begins.Given as goal

abbrev pub invariant-loop-reaction : goal.invariant-loop-reaction
invariant-loop-reaction l =
    list_any (λ r. names r.triggers to.Startup) (map rule_of (drop l.reaction-index l.reactions))
    ≡ list_any (λ r. names r.triggers to.Startup) (map rule_of l.reactions)
