-- When a round of announcements is due, and up to which tag.
use Rattle.std.specs.Prelude.{ℕ, ◌+◌, ◌&&◌, ◌||◌, Bool, nat_le, List, [], ◌∷◌, Option, Some, None, if◌then◌else◌}
use Rattle.warp_tag.specs.Moment.{Moment, is_before}
use Rattle.warp_clock.specs.Clock.{ClockState, is_over, open_of, turned}

-- how many ticks apart two rounds are where something lies open; the tag up to which all was announced
pub record ClosingState : Type 0 where
  pub every : ℕ
  pub closed : Moment

-- the tag up to which a round announces: the beginning of the least tick that is open
abbrev pub bound_of : ClockState → Moment
bound_of c = record { time = open_of c; microstep = 0 }

-- so many ticks are closed that were not announced
abbrev pub is_behind : ℕ → ClockState → ClosingState → Bool
is_behind ticks c k = nat_le (k.closed.time + ticks) (open_of c)

-- Whether a round is due: something is closed that was not announced, and either it is the last round, or something lies
-- open before its bound and the last one is so many ticks back, or a second.
abbrev pub is_due : Bool → ClockState → ClosingState → Bool
is_due lies_open c k =
    is_before k.closed (bound_of c) && (is_over c || ((lies_open && is_behind k.every c k) || is_behind c.hertz c k))

-- the bound of the round that is due
abbrev pub round_of : Bool → ClockState → ClosingState → Option Moment
round_of lies_open c k = if is_due lies_open c k then Some (bound_of c) else None

-- all was announced up to this tag
abbrev pub with_closed : Moment → ClosingState → ClosingState
with_closed tag k = record k { closed = if is_before k.closed tag then tag else k.closed }

-- a clock, and when its rounds are due
pub record Paced : Type 0 where
  pub clock : ClockState
  pub closing : ClosingState

-- what happens to them: the clock is turned; a round is made, if one is due, where something lies open or nothing does;
-- all was announced up to a tag
pub data PaceStep : Type 0 where
  Turns : ℕ → PaceStep
  Rounds : Bool → PaceStep
  Closes : Moment → PaceStep

-- a round is made, if one is due
abbrev pub with_round : Option Moment → ClosingState → ClosingState
with_round None k = k
with_round (Some tag) k = with_closed tag k

-- what a step does
abbrev pub after_step : PaceStep → Paced → Paced
after_step (Turns now) p = record p { clock = turned now p.clock }
after_step (Rounds lies_open) p = record p { closing = with_round (round_of lies_open p.clock p.closing) p.closing }
after_step (Closes tag) p = record p { closing = with_closed tag p.closing }

-- what steps do, one after another
abbrev pub after_steps : List PaceStep → Paced → Paced
after_steps [] p = p
after_steps (step ∷ steps) p = after_steps steps (after_step step p)

-- among these steps nothing was announced but by rounds that were due
abbrev pub AreRounds : List PaceStep → Type 0
AreRounds [] = Unit
AreRounds (Closes tag ∷ steps) = ⊥
AreRounds (step ∷ steps) = AreRounds steps
