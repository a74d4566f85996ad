-- What a replica's replies depend on.
use Rattle.std.specs.Prelude.{◌≡◌, List}
use Rattle.warp_step.specs.Program.{Program}
use Rattle.warp_record.specs.declared.record.Record.{Record}
use Rattle.warp_record.specs.declared.line.Line.{Line}
use Rattle.warp_record.specs.declared.reply.Reply.{Reply}
use Rattle.warp_replica.specs.Gives.{Gives}
use Rattle.warp_replica.specs.Replica.{ReplicaState}

-- the program, and the records in the order of taking
pub record LocalState : Type 0 where
  pub program : Program
  pub records : List Record

-- of a replica: all but its timeline
abbrev pub local_state : {T : Type 0} → ReplicaState T → LocalState
local_state r = record { program = r.program; records = r.records }

-- the program stays, and the line gives what it gives on the log
abbrev pub LocalGives : LocalState → Line → Reply → LocalState → Type 0
LocalGives s said reply s' = (s'.program ≡ s.program) × Gives s.program s.records said reply s'.records
