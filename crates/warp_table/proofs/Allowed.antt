-- An event against which a program has no reason is one that it takes.
use Rattle.std.proofs.Common.{◌≡◌, ℕ, ℤ, Bool, true, false, ◌&&◌, Some, None, refl}
use Rattle.std.specs.Prelude.{if◌then◌else◌}
use Rattle.warp_tag.specs.Moment.{Moment}
use Rattle.warp_step.specs.Program.{Program}
use Rattle.warp_step.specs.Events.{is_declared, is_in_time, has_input, owns_input, IsEventOf}
use Rattle.warp_record.specs.declared.record.Record.TheVariants.{Event}
use Rattle.warp_record.specs.declared.reply.Refusal.TheVariants.{NoOrigin, PastStop, NoInput, NotYours}
use Rattle.warp_table.specs.Check.{refusal_of}

-- of four parts that are looked at in turn all hold where no reason is left
all_hold : (a b c d : Bool) → (if a then (if b then (if c then (if d then None else Some NotYours) else Some NoInput) else Some PastStop) else Some NoOrigin) ≡ None → (a && b && c && d) ≡ true
all_hold true true true true h = refl
all_hold true true true false h = cc
all_hold true true false d h = cc
all_hold true false c d h = cc
all_hold false b c d h = cc

-- and the other way round
none_left : (a b c d : Bool) → (a && b && c && d) ≡ true → (if a then (if b then (if c then (if d then None else Some NotYours) else Some NoInput) else Some PastStop) else Some NoOrigin) ≡ None
none_left true true true true h = refl
none_left true true true false h = cc
none_left true true false d h = cc
none_left true false c d h = cc
none_left false b c d h = cc

-- an event that is not refused is one that the program takes
pub allowed_takes : (P : Program) (origin : ℕ) (tag : Moment) (input : ℕ) (value : ℤ) → refusal_of P (Event origin tag input value) ≡ None → IsEventOf P origin tag input
allowed_takes P origin tag input value h =
    all_hold (is_declared P origin) (is_in_time P tag) (has_input P input) (owns_input P origin input) h

-- an event that the program takes is not refused
pub takes_allowed : (P : Program) (origin : ℕ) (tag : Moment) (input : ℕ) (value : ℤ) → IsEventOf P origin tag input → refusal_of P (Event origin tag input value) ≡ None
takes_allowed P origin tag input value h =
    none_left (is_declared P origin) (is_in_time P tag) (has_input P input) (owns_input P origin input) h
