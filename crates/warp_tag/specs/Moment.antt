-- Tags as definitions see them.
use Rattle.std.specs.Prelude.{ℕ, ◌≤◌, Bool, ◌==◌, ◌&&◌, ◌||◌, nat_lt}
use Rattle.warp_tag.specs.Limits.{widest, last_time, last_microstep}
use Rattle.warp_tag.specs.declared.form.Form.{Form}

-- a time and a microstep
pub record Moment : Type 0 where
  pub time : ℕ
  pub microstep : ℕ

-- by time, then by microstep
abbrev pub is_before : Moment → Moment → Bool
is_before a b = nat_lt a.time b.time || (a.time == b.time && nat_lt a.microstep b.microstep)

-- the same tag
abbrev pub is_same : Moment → Moment → Bool
is_same a b = a.time == b.time && a.microstep == b.microstep

-- the range of a tag in a form
pub record IsTagOf (f : Form) (t : Moment) : Type 0 where
  pub time : t.time ≤ last_time f
  pub microstep : t.microstep ≤ last_microstep f

-- the range of a tag in any form
abbrev pub IsInRange : Moment → Type 0
IsInRange t = IsTagOf widest t
