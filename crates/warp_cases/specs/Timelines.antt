-- What a timeline stands for after so many calls.
use Rattle.std.specs.Prelude.{ℕ, ◌≤◌, List, length}
use Rattle.warp_tag.specs.declared.entry.Entry.{Entry}
use Rattle.warp_step.specs.Program.{Program}
use Rattle.warp_step.specs.Run.{Row}
use Rattle.warp_line.specs.Timeline.{Standing}

-- the value stands for the program and a table of at most so many names, with some rows done
pub record StandsFew {T : Type 0} (stands_for : T → Standing → Type 0) (value : T) (P : Program) (most : ℕ) : Type 0 where
  pub table : List Entry
  pub done : List Row
  pub stands : stands_for value (record { program = P; table = table; done = done })
  pub few : length table ≤ most
