-- The places of a host that are kept from connections without a token, where one is wanted.
use Rattle.std.specs.Prelude.{ℕ, ◌-◌, ◌/◌, min}

-- so many are kept of those that connections with a token leave: sixteen, or half where they leave fewer than 32
abbrev pub kept_of : ℕ → ℕ
kept_of left = min (left / 2) 16

-- so many connections without a token may hold
abbrev pub most_unknown : ℕ → ℕ
most_unknown left = left - kept_of left
