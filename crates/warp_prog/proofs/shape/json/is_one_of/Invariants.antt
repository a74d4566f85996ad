use Rattle.std.proofs.Common.{◌≡◌, drop, map}
use Rattle.warp_prog.specs.Json.{is_one_of}
use Rattle.warp_prog.proofs.shape.json.is_one_of.Given as goal

abbrev pub invariant-loop-known : goal.invariant-loop-known
invariant-loop-known l = is_one_of (map (λ k. k.now) (drop l.known-index l.keys)) l.key ≡ is_one_of (map (λ k. k.now) l.keys) l.key
