-- The flags say the origins of the words so far.
use Rattle.std.proofs.Common.{Bor, List, ℕ, map}
use Rattle.warp_hub.proofs.TokenLines.{SoFar}
use Rattle.warp_hub.proofs.tokens.read_origins.Given as goal

abbrev pub invariant-loop-word : goal.invariant-loop-word
invariant-loop-word l = SoFar l.form (map (λ (w : Bor (List ℕ)). w.now) l.yielded) l.origins
