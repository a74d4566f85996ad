-- some reactor that is left has a reaction at fault exactly if some of all has
use Rattle.std.proofs.Common.{◌≡◌, drop, map}
use Rattle.std.specs.List.{list_any}
use Rattle.warp_prog.specs.View.{reactor_tree}
use Rattle.warp_prog.specs.File.{ReactorPart}
use Rattle.warp_prog.specs.inner.Rule.{reaction_breaks}
use Rattle.warp_prog.proofs.names.any_reactor.Given as goal

abbrev pub invariant-loop-i : goal.invariant-loop-i
invariant-loop-i l =
    list_any (λ (r : ReactorPart). list_any (reaction_breaks l.are_known r) r.reactions) (map reactor_tree (drop l.i l.reactors))
    ≡ list_any (λ (r : ReactorPart). list_any (reaction_breaks l.are_known r) r.reactions) (map reactor_tree l.reactors)
