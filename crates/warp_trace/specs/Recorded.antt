-- How the program and the records of a recorder are stored.
use Rattle.std.specs.Prelude.{List, refl}
use Rattle.std.specs.Coded.{Coded, code_by, coded×, coded_list}
use Rattle.warp_step.specs.Codes.{program_code}
use Rattle.warp_step.specs.Program.{Program}
use Rattle.warp_record.specs.Codes.{record_code}
use Rattle.warp_record.specs.declared.record.Record.{Record}
use Rattle.warp_replica.specs.Desk.{LocalState}

-- as their two parts
abbrev pub recorded_code : Coded LocalState
recorded_code =
    code_by (Program × List Record)
    (coded× program_code (coded_list record_code))
    (λ r. (r.program, r.records))
    (λ p. record { program = p.0; records = p.1 })
    (λ _. refl)
