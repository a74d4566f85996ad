use Rattle.std.proofs.Common.{◌≡◌, map}
use Rattle.serde_json.specs.View.{members_view}
use Rattle.warp_prog.specs.Json.{are_keys}
use Rattle.warp_prog.proofs.shape.json.are_keys.Given as goal

abbrev pub invariant-loop-key : goal.invariant-loop-key
invariant-loop-key l = are_keys (map (λ k. k.now) l.keys) (members_view l.key-iterator) ≡ are_keys (map (λ k. k.now) l.keys) (members_view l.members.entries)
