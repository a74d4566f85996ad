-- The first of some moments.
use Rattle.std.proofs.Common.{◌≡◌, ◌∙◌, ℕ, ◌≤◌, List, [], ◌∷◌, ap, sym, arith}
use Rattle.std.specs.Prelude.{min}
use Rattle.warp_service.specs.Contact.{never}
use Rattle.warp_service.specs.Timers.{earliest}

pub not_later : (moments : List ℕ) → earliest moments ≤ never
not_later [] = omega arith
not_later (moment ∷ moments) = omega (arith, not_later moments)

pub from_never : (moments : List ℕ) → min never (earliest moments) ≡ earliest moments
from_never moments = omega (arith, not_later moments)

alone : (first : ℕ) → first ≤ never → min first never ≡ first
alone first few = omega (arith, few)

pub at_end : (first : ℕ) (rest moments : List ℕ) → first ≤ never → rest ≡ [] → min first (earliest rest) ≡ earliest moments
    → first ≡ earliest moments
at_end first rest moments few none so = sym (ap (λ l. min first (earliest l)) none ∙ alone first few) ∙ so
