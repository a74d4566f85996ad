-- The desk of a trace: it takes records as a replica does, executes nothing, and notes whether memory was wanting for one.
use Rattle.std.specs.Prelude.{◌≡◌, ◌||◌, Bool, false, true, refl}
use Rattle.std.specs.Coded.{Coded, code_by, coded×, coded_bool}
use Rattle.warp_record.specs.declared.line.Line.{Line}
use Rattle.warp_record.specs.declared.line.Line.TheVariants.{Put}
use Rattle.warp_record.specs.declared.reply.Refusal.TheVariants.{NoMemory}
use Rattle.warp_record.specs.declared.reply.Reply.{Reply}
use Rattle.warp_record.specs.declared.reply.Reply.TheVariants.{Refused}
use Rattle.warp_replica.specs.Desk.{LocalGives, LocalState}
use Rattle.warp_trace.specs.Recorded.{recorded_code}

-- the program and its records; and whether a record was refused for want of memory
pub record Gathered : Type 0 where
  pub taken : LocalState
  pub lacked : Bool

-- it is stored as its two parts
abbrev pub gathered_code : Coded Gathered
gathered_code =
    code_by (LocalState × Bool) (coded× recorded_code coded_bool) (λ g. (g.taken, g.lacked)) (λ p. record { taken = p.0; lacked = p.1 }) (λ _. refl)

-- whether the line brings a record
abbrev pub brings_record : Line → Bool
brings_record (Put said) = true
brings_record other = false

-- whether the reply is a refusal for want of memory
abbrev pub is_want : Reply → Bool
is_want (Refused NoMemory) = true
is_want other = false

-- whether a record that the line brings was refused for want of memory
abbrev pub lacks_memory : Line → Reply → Bool
lacks_memory (Put said) reply = is_want reply
lacks_memory other reply = false

-- which reply a line may get, and what the desk is then
abbrev pub Gathers : Gathered → Line → Reply → Gathered → Type 0
Gathers g said reply g' = LocalGives g.taken said reply g'.taken × (g'.lacked ≡ (g.lacked || lacks_memory said reply))
