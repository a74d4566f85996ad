-- Timers that are pending again as the entries at a tag are taken one after another.
use Rattle.std.specs.Prelude.{ℕ, pos, nat_lt, Bool, true, false, ◌&&◌, ◌==◌, List, [], ◌∷◌, slice_index_or, if◌then◌else◌}
use Rattle.warp_tag.specs.Moment.{Moment, is_same}
use Rattle.warp_body.specs.declared.place.Target.{Target}
use Rattle.warp_body.specs.declared.place.Target.TheVariants as to
use Rattle.warp_step.specs.Program.{Program}
use Rattle.warp_step.specs.Snapshot.{Snapshot, landed}
use Rattle.warp_step.specs.declared.pending.Waiting.{Waiting}

-- the period of the timer with this number
abbrev pub period_of : Program → ℕ → ℕ
period_of P n = (slice_index_or P.timers n (record { reactor = 0; offset = 0; period = 0 })).period

-- a target that is a timer with a period is pending again
abbrev pub again : Program → Moment → Target → Snapshot → Snapshot
again P t to.Startup s = s
again P t (to.Timer n) s = if nat_lt 0 (period_of P n) then landed P t (period_of P n) (to.Timer n) (pos 0) s else s
again P t (to.Action n) s = s
again P t (to.Port n) s = s

-- so is each of these targets, one after another
abbrev pub again_each : Program → Moment → List Target → Snapshot → Snapshot
again_each P t [] s = s
again_each P t (k ∷ ks) s = again_each P t ks (again P t k s)

-- the period of a target that is a timer, else 0
abbrev pub target_period : Program → Target → ℕ
target_period P to.Startup = 0
target_period P (to.Timer n) = period_of P n
target_period P (to.Action n) = 0
target_period P (to.Port n) = 0

-- the target is a timer
abbrev pub is_timer : Target → Bool
is_timer to.Startup = false
is_timer (to.Timer n) = true
is_timer (to.Action n) = false
is_timer (to.Port n) = false

-- the entry is at the tag, and to a target with this period
abbrev pub is_alike : Program → Moment → ℕ → Waiting → Bool
is_alike P t p w = is_same w.tag t && target_period P w.target == p

-- the entry at a later tag, without a value
abbrev pub later_entry : Moment → Waiting → Waiting
later_entry u w = record { tag = u; target = w.target; value = pos 0 }
