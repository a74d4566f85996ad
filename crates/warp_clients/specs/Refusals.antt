-- How many refusals were told, by their numbers.
use Rattle.std.specs.Prelude.{ℕ, ◌+◌, ◌%◌, ◌^◌, List, nat_lt, if◌then◌else◌, slice_index_or, slice_set}

-- refusals have numbers below this one
abbrev pub most_refusals : ℕ
most_refusals = 23

-- one more of this number, if a refusal may have it; behind 2 ^ 64 - 1 comes 0
abbrev pub one_more : ℕ → List ℕ → List ℕ
one_more number counts =
    if nat_lt number most_refusals then slice_set counts number ((slice_index_or counts number 0 + 1) % 2 ^ 64) else counts
