-- Why a program takes no such record.
use Rattle.std.specs.Prelude.{◌+◌, ◌||◌, nat_lt, Option, Some, None, if◌then◌else◌}
use Rattle.warp_tag.specs.Limits.{has_joint}
use Rattle.warp_tag.specs.Moment.{Moment, is_before}
use Rattle.warp_step.specs.Program.{Program, top_of}
use Rattle.warp_step.specs.Events.{is_declared, is_in_time, has_input, owns_input}
use Rattle.warp_record.specs.declared.record.Record.{Record}
use Rattle.warp_record.specs.declared.record.Record.TheVariants.{Event, Withdraw, Announce, Joint}
use Rattle.warp_record.specs.declared.reply.Refusal.{Refusal}
use Rattle.warp_record.specs.declared.reply.Refusal.TheVariants.{NoOrigin, PastStop, NoInput, NotYours}

-- the tag behind all that a program executes
abbrev pub end_of : Program → Moment
end_of P = record { time = P.stop + 1; microstep = 0 }

-- The first of the reasons why the program takes no such record, if there is one: no such origin, past its stop or the
-- last microstep of its times, no such input, an input of another origin. What an announcement says may end with the
-- stop, so its tag may be the first one behind it. A joint announcement is of no origin where the form has none.
abbrev pub refusal_of : Program → Record → Option Refusal
refusal_of P (Event origin tag input value) =
    if is_declared P origin
    then (if is_in_time P tag
    then (if has_input P input
    then (if owns_input P origin input then None else Some NotYours)
    else Some NoInput)
    else Some PastStop)
    else Some NoOrigin
refusal_of P (Withdraw origin tag) =
    if is_declared P origin then (if is_in_time P tag then None else Some PastStop) else Some NoOrigin
refusal_of P (Announce origin tag events withdrawn) =
    if is_declared P origin
    then (if is_before (end_of P) tag || nat_lt (top_of P) tag.microstep then Some PastStop else None)
    else Some NoOrigin
refusal_of P (Joint tag events withdrawn) =
    if has_joint P.form
    then (if is_before (end_of P) tag || nat_lt (top_of P) tag.microstep then Some PastStop else None)
    else Some NoOrigin
