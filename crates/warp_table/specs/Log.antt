-- Logs: records in the order of taking.
use Rattle.std.specs.Prelude.{◌≡◌, ◌≢◌, ℕ, ◌-◌, ◌≤◌, List, Some, slice_get, AllPairs}
use Rattle.warp_record.specs.declared.record.Record.{Record}

-- the record stands at this place of the list, counted from 1
abbrev pub IsAt : List Record → ℕ → Record → Type 0
IsAt records place said = (1 ≤ place) × (slice_get records (place - 1) ≡ Some said)

-- no record stands at two places
abbrev pub EachOnce : List Record → Type 0
EachOnce records = AllPairs (λ a b. a ≢ b) records
