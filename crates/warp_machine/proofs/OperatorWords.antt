-- A line that is none of the words of an operator.
use Rattle.std.proofs.Common.{◌≡◌, ℕ, List, codes}
use Rattle.warp_machine.specs.Operating.{IsNoWord}
use Rattle.warp_machine.specs.declared.operating.Level.TheVariants as level
use Rattle.warp_machine.specs.declared.operating.OperatorWord.TheVariants as word

pub none_of : (line : List ℕ) → (line ≡ codes "stop" → ⊥) → (line ≡ codes "status" → ⊥) → (line ≡ codes "tokens" → ⊥)
    → (line ≡ codes "log-level error" → ⊥) → (line ≡ codes "log-level warn" → ⊥) → (line ≡ codes "log-level info" → ⊥) → IsNoWord line
none_of line stop status tokens error warn info word.Stop is = stop is
none_of line stop status tokens error warn info word.Status is = status is
none_of line stop status tokens error warn info word.Tokens is = tokens is
none_of line stop status tokens error warn info (word.LogLevel level.Error) is = error is
none_of line stop status tokens error warn info (word.LogLevel level.Warn) is = warn is
none_of line stop status tokens error warn info (word.LogLevel level.Info) is = info is
