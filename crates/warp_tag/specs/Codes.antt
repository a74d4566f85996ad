-- Codes of tags, so that a model's value may have them.
use Rattle.std.specs.Prelude.{ℕ, refl}
use Rattle.std.specs.Coded.{Coded, code_by, coded×, coded_ℕ}
use Rattle.warp_tag.specs.Moment.{Moment}

-- a tag is stored as its two numbers
abbrev pub moment_code : Coded Moment
moment_code = code_by (ℕ × ℕ) (coded× coded_ℕ coded_ℕ) (λ t. (t.time, t.microstep)) (λ p. record { time = p.0; microstep = p.1 }) (λ _. refl)
