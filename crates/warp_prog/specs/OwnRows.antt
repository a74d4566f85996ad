-- The rows that a program makes by itself: those of startup and of its timers, where nothing else comes.
use Rattle.std.specs.Prelude.{ℕ, zero, suc, ◌+◌, ◌*◌, ◌-◌, ◌%◌, Bool, ◌&&◌, ◌||◌, ◌==◌, nat_le, nat_lt, if◌then◌else◌}
use Rattle.std.specs.Prelude.{List, [], ◌++◌, codes, length}
use Rattle.std.specs.List.{list_any}
use Rattle.warp_tag.specs.declared.form.Form.{Form}
use Rattle.warp_tag.specs.declared.form.Form.TheVariants.{One, Two, Three, Four}
use Rattle.warp_step.specs.Program.{Program}
use Rattle.warp_step.specs.Snapshot.{begins}
use Rattle.warp_step.specs.declared.parts.Timer.{Timer}

-- a timer is due at a time: at its offset, and where it has a period, after each period again
abbrev pub is_due : ℕ → Timer → Bool
is_due time t =
    nat_le t.offset time && (if t.period == 0 then time == t.offset else (time - t.offset) % t.period == 0)

-- startup or a timer is due at a time
abbrev pub is_own : Program → ℕ → Bool
is_own P time = (time == 0 && begins P) || list_any (is_due time) P.timers

-- at how many of the times before this one
abbrev pub own_before : Program → ℕ → ℕ
own_before P zero = 0
own_before P (suc time) = own_before P time + (if is_own P time then 1 else 0)

-- how many rows a program makes by itself up to its stop
abbrev pub own_rows : Program → ℕ
own_rows P = own_before P (P.stop + 1)

-- how many outputs these put at most: each row as many as there are program outputs
abbrev pub own_outputs : Program → ℕ
own_outputs P = own_rows P * length P.outputs

-- more rows or outputs than these are warned of
abbrev pub many : ℕ
many = 1000000

-- the warning of many rows, or else of many outputs
abbrev pub many_text : Program → List ℕ
many_text P =
    if nat_lt many (own_rows P)
    then codes "warning: startup and timers make more than 1,000,000 rows, which the first query has to wait for\n"
    else (if nat_lt many (own_outputs P)
    then codes "warning: startup and timers may make more than 1,000,000 outputs, which the first query has to wait for\n" else [])

-- the warning of a program in which actions or links lead round without a delay
abbrev pub round_text : Bool → List ℕ
round_text goes_round =
    if goes_round then codes "warning: one time may have a row at each microstep: actions or links lead round without delay\n" else []

-- more nodes than these are warned of
abbrev pub many_nodes : ℕ
many_nodes = 1000000000

-- the warning that so much work may take long, in the fourth form alone
abbrev pub work_text_in : Form → Bool → List ℕ
work_text_in One is_long = []
work_text_in Two is_long = []
work_text_in Three is_long = []
work_text_in Four is_long =
    if is_long
    then codes "warning: what startup and timers make may be more work than 1,000,000,000, for which the first query has to wait\n"
    else []

-- the warning of a program of version 4 whose rows by itself may be so much work, where a row is so much
abbrev pub work_text : Program → ℕ → List ℕ
work_text P work = work_text_in P.form (nat_lt many_nodes (own_rows P * work))

-- what is warned of
abbrev pub warning_text : Program → ℕ → Bool → List ℕ
warning_text P work goes_round = many_text P ++ work_text P work ++ round_text goes_round
