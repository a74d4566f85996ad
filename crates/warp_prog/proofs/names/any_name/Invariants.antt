-- some name that is left has not its role exactly if some of all has not
use Rattle.std.proofs.Common.{◌≡◌, drop, not}
use Rattle.std.specs.List.{list_any}
use Rattle.warp_prog.specs.View.{reactor_tree}
use Rattle.warp_prog.specs.inner.Rule.{fits}
use Rattle.warp_prog.proofs.names.any_name.Given as goal

abbrev pub invariant-loop-name : goal.invariant-loop-name
invariant-loop-name l =
    list_any (λ name. not (fits l.role (reactor_tree l.reactor) name)) (drop l.name-index l.names)
    ≡ list_any (λ name. not (fits l.role (reactor_tree l.reactor) name)) l.names
