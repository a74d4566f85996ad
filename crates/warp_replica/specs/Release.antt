-- What the laws of release ask of a set of records, beside that it is honest.
use Rattle.std.specs.Prelude.{◌≡◌, None}
use Rattle.warp_step.specs.Program.{Program}
use Rattle.warp_record.specs.declared.record.Record.{Record}
use Rattle.warp_table.specs.Records.{Records, IsIn}
use Rattle.warp_table.specs.Check.{refusal_of}

-- each record of the set is one that the program takes
abbrev pub AreTaken : Program → Records → Type 0
AreTaken P U = (said : Record) → IsIn U said → refusal_of P said ≡ None
