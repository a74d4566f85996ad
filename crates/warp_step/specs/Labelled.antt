-- What the cells of arrays are called.
use Rattle.std.specs.Prelude.{ℕ, List, string_bytes}
use Rattle.warp_step.specs.declared.array_label.ArrayLabel.{ArrayLabel}

-- an array: what it is called, the number of its first cell among the variables, and how many cells it has
pub record ArrayName : Type 0 where
  pub label : List ℕ
  pub first : ℕ
  pub count : ℕ

-- the name that a label is
abbrev pub array_name : ArrayLabel → ArrayName
array_name a = record { label = string_bytes a.label; first = a.first; count = a.count }
