-- What is left gives what all give.
use Rattle.std.proofs.Common.{◌≡◌, ◌∷◌, ◌++◌, drop}
use Rattle.std.specs.Fmt.{signed_decimal}
use Rattle.std.specs.List.{flat_map}
use Rattle.warp_watch.proofs.words.add_values.Given as goal

abbrev pub invariant-loop-value : goal.invariant-loop-value
invariant-loop-value l =
    l.text.items ++ flat_map (λ value. 32 ∷ signed_decimal value) (drop l.value-index l.values)
    ≡ l.initial.text.items ++ flat_map (λ value. 32 ∷ signed_decimal value) l.values
