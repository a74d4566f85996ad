-- Ledgers that nobody counts in yet.
use Rattle.std.specs.Prelude.{◌≡◌, ℕ, ◌<◌}
use Rattle.std.specs.declared.sync.ledger.Blank.{Blank}

-- the blank is the ledger of this name, cut into so many parts, of which there is at least one
pub record IsUnused (blank : Blank) (of : ℕ) (cut : ℕ) : Type 0 where
  pub name : blank.name ≡ of
  pub parts : blank.parts ≡ cut
  pub some : 0 < blank.parts
