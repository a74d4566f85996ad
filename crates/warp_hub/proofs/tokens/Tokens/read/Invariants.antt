-- The lines so far have these entries, and are counted.
use Rattle.std.proofs.Common.{◌≡◌, ◌-◌, ◌^◌, Bor, List, ℕ, length, map, min}
use Rattle.warp_hub.specs.Tokens.{AreEntries}
use Rattle.warp_hub.proofs.tokens.Tokens.read.Given as goal

abbrev pub invariant-loop-line : goal.invariant-loop-line
invariant-loop-line l =
    AreEntries l.form (map (λ (w : Bor (List ℕ)). w.now) l.yielded) l.tokens × (l.number ≡ min (length l.yielded) (2 ^ 32 - 1))
