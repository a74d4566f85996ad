-- proofs/order/any_is_one_of/Invariants.antt
-- one of the targets that are left is one of the ports exactly if one of all is
use Rattle.std.proofs.Common.{◌≡◌, drop}
use Rattle.std.specs.List.{list_any}
use Rattle.warp_body.specs.Presence.{is_target}
use Rattle.warp_body.specs.declared.place.Target.TheVariants.{Port}
use Rattle.warp_prog.proofs.order.any_is_one_of.Given as goal

abbrev pub invariant-loop-target : goal.invariant-loop-target
invariant-loop-target l =
    list_any (λ t. list_any (λ p. is_target (Port p) t) l.ports) (drop l.target-index l.targets)
    ≡ list_any (λ t. list_any (λ p. is_target (Port p) t) l.ports) l.targets
