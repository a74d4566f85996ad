-- What a `Plain` stands for.
use Rattle.std.specs.Prelude.{◌≡◌, ℕ, ◌<◌, IsTrue, MatchBool, List, [], ◌∷◌, vec_len, vec_capacity}
use Rattle.std.specs.List.{list_all}
use Rattle.warp_tag.specs.Table.{IsTable, live}
use Rattle.warp_step.specs.Valid.{is_valid}
use Rattle.warp_step.specs.Snapshot.{start_state}
use Rattle.warp_step.specs.Events.{event_fits}
use Rattle.warp_step.specs.Run.{state_at_end, outputs_of}
use Rattle.warp_line.specs.Timeline.{Standing, IsDone}
use Rattle.warp_line.specs.declared.plain.Plain.{Plain}

-- all rows are done, and state and outputs are those after them
pub record IsRun (p : Plain) (m : Standing) : Type 0 where
  pub done : IsDone m
  pub state : p.state ≡ state_at_end (start_state m.program) m.done
  pub outputs : p.outputs.items ≡ outputs_of m.done

-- the program is valid; it keeps the table, sorted, with events that the program takes; all rows are done, or none is
-- known
pub record StandsFor (p : Plain) (m : Standing) : Type 0 where
  pub program : IsTrue (is_valid m.program)
  pub table : p.entries.items ≡ m.table
  pub ordered : IsTable m.table
  pub events : IsTrue (list_all (event_fits m.program) (live m.table))
  pub rows : MatchBool p.settled (IsRun p m) (m.done ≡ [])

-- the room of its table and of its outputs
abbrev pub room_in : Plain → List ℕ
room_in p = vec_capacity p.entries ∷ vec_capacity p.outputs ∷ []

-- there is room for a name
abbrev pub HasRoom : Plain → Type 0
HasRoom p = vec_len p.entries < vec_capacity p.entries
