-- What a replica is, and what its timeline stands for.
use Rattle.std.specs.Prelude.{◌≡◌, List, All, None, refl}
use Rattle.std.specs.Coded.{Coded, code_by, coded×, coded_list}
use Rattle.warp_step.specs.Codes.{program_code}
use Rattle.warp_step.specs.Program.{Program}
use Rattle.warp_step.specs.Run.{Row}
use Rattle.warp_record.specs.declared.record.Record.{Record}
use Rattle.warp_table.specs.LogNames.{table_of}
use Rattle.warp_table.specs.Check.{refusal_of}
use Rattle.warp_line.specs.Timeline.{Standing}
use Rattle.warp_record.specs.Codes.{record_code}

-- the program, the records that it took, in the order of taking, and the timeline that runs them
pub record ReplicaState (T : Type 0) : Type 0 where
  pub program : Program
  pub records : List Record
  pub timeline : T

-- a replica is stored as its three parts
abbrev pub replica_code : {T : Type 0} → Coded T → Coded (ReplicaState T)
replica_code {T} timeline =
    code_by (Program × (List Record × T))
    (coded× program_code (coded× (coded_list record_code) timeline))
    (λ r. (r.program, (r.records, r.timeline)))
    (λ p. record { program = p.0; records = p.1.0; timeline = p.1.1 })
    (λ _. refl)

-- what the timeline has to stand for: the program, the names of the records, and these done rows
abbrev pub standing_of : {T : Type 0} → ReplicaState T → List Row → Standing
standing_of r done = record { program = r.program; table = table_of r.records; done = done }

-- the timeline stands for the replica's program and records, with these rows done
abbrev pub Stands : {T : Type 0} → (T → Standing → Type 0) → ReplicaState T → List Row → Type 0
Stands stands_for r done = stands_for r.timeline (standing_of r done)

-- the program has no reason against any of the records
abbrev pub AreAllowed : Program → List Record → Type 0
AreAllowed P records = All (λ said. refusal_of P said ≡ None) records
