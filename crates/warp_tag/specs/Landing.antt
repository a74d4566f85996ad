-- Where a delay lands.
use Rattle.std.specs.Prelude.{ℕ, ◌+◌, ◌==◌, nat_le, if◌then◌else◌}
use Rattle.warp_tag.specs.Moment.{Moment}
use Rattle.warp_tag.specs.declared.tag.Landing.{Landing}
use Rattle.warp_tag.specs.declared.tag.Landing.TheVariants.{At, PastStop, PastMicro}

-- with this stop and this last microstep, from a tag that is not past them: after a delay at microstep 0 of the later time,
-- without one at the next microstep; nothing lands past the stop or past the last microstep
abbrev pub landing : ℕ → ℕ → Moment → ℕ → Landing
landing stop top t delay =
    if delay == 0
    then (if nat_le (t.microstep + 1) top then At (record { time = t.time; microstep = t.microstep + 1 }) else PastMicro)
    else (if nat_le (t.time + delay) stop then At (record { time = t.time + delay; microstep = 0 }) else PastStop)
