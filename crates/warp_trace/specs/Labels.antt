-- The names that numbers stand for.
use Rattle.std.specs.Prelude.{ℕ, ◌+◌, ◌-◌, ◌&&◌, nat_le, nat_lt, List, [], ◌∷◌, ◌++◌, Option, Some, None, codes, decimal, length, slice_get, if◌then◌else◌}
use Rattle.warp_step.specs.Labelled.{ArrayName}
use Rattle.std.specs.Option.{unwrap_or}
use Rattle.warp_body.specs.declared.place.Target.{Target}
use Rattle.warp_body.specs.declared.place.Target.TheVariants as to

-- the names of a program's variables, inputs and outputs, and of its timers, actions and ports, each by number; and of its arrays,
-- whose cells are variables behind those
pub record Names : Type 0 where
  pub variables : List (List ℕ)
  pub inputs : List (List ℕ)
  pub outputs : List (List ℕ)
  pub timers : List (List ℕ)
  pub actions : List (List ℕ)
  pub ports : List (List ℕ)
  pub arrays : List ArrayName

-- the name with this number, or `?` and the number where there is none
abbrev pub name_at : List (List ℕ) → ℕ → List ℕ
name_at names n = unwrap_or (slice_get names n) (codes "?" ++ decimal n)

-- the same in quotes
abbrev pub quoted : List (List ℕ) → ℕ → List ℕ
quoted names n = codes "\"" ++ name_at names n ++ codes "\""

-- the name of the variable with this number that is a cell of one of these arrays: the array's and the cell's number in brackets
abbrev pub cell_name : List ArrayName → ℕ → Option (List ℕ)
cell_name [] n = None
cell_name (a ∷ rest) n =
    if nat_le a.first n && nat_lt n (a.first + a.count) then Some (a.label ++ codes "[" ++ decimal (n - a.first) ++ codes "]")
    else cell_name rest n

-- the name of a variable in quotes: its own, else that of the cell that it is, else `?` and the number
abbrev pub variable_name : Names → ℕ → List ℕ
variable_name names n =
    if nat_lt n (length names.variables) then quoted names.variables n
    else codes "\"" ++ unwrap_or (cell_name names.arrays n) (codes "?" ++ decimal n) ++ codes "\""

-- the name of a target in quotes
abbrev pub target_name : Names → Target → List ℕ
target_name names to.Startup = codes "\"startup\""
target_name names (to.Timer n) = quoted names.timers n
target_name names (to.Action n) = quoted names.actions n
target_name names (to.Port n) = quoted names.ports n
