-- one of the targets that are left is present exactly if one of all is
use Rattle.std.proofs.Common.{◌≡◌, drop, IsTrue, is_some}
use Rattle.std.specs.List.{list_all, list_any}
use Rattle.warp_body.specs.Presence.{places_of, target_fits, present_at}
use Rattle.warp_step.proofs.react.is_one_present.Given as goal

abbrev pub invariant-loop-target : goal.invariant-loop-target
invariant-loop-target l = record {
  rest : list_any (λ target. is_some (present_at l.present target)) (drop l.target-index l.targets)
      ≡ list_any (λ target. is_some (present_at l.present target)) l.targets;
  fits : IsTrue (list_all (target_fits (places_of l.present)) (drop l.target-index l.targets));
}
