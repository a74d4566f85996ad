-- A clock of ticks over moments that are handed in. Moments and spans are in microseconds.
use Rattle.std.specs.Prelude.{◌≡◌, ℕ, ◌+◌, ◌-◌, ◌*◌, ◌/◌, ◌≤◌, ◌==◌, Bool, false, min, max, nat_lt, List, [], ◌∷◌, if◌then◌else◌}
use Rattle.warp_tag.specs.Limits.{longest_stop, widest}
use Rattle.warp_clock.specs.declared.clock.Pause.{Pause}
use Rattle.warp_clock.specs.declared.clock.Pause.TheVariants.{Stand, Jump}
use Rattle.warp_clock.specs.declared.clock.Ticks.{Ticks}
use Rattle.warp_clock.specs.declared.clock.Turned.{Turned}

-- the last moment that there is: what is due then is never due
abbrev pub never : ℕ
never = 18446744073709551615

-- how many whole ticks there are in a span, at so many a second
abbrev pub ticks_in : ℕ → ℕ → ℕ
ticks_in hertz span = span * hertz / 1000000

-- how long so many ticks take, at so many a second, rounded up
abbrev pub span_of : ℕ → ℕ → ℕ
span_of hertz ticks = (ticks * 1000000 + (hertz - 1)) / hertz

-- How many ticks there are a second; the tick that was reached at the base; the least tick that was open then; the last
-- tick, and how many more a tick stays open behind it; what a pause does; the base; and the latest moment that was heard.
pub record ClockState : Type 0 where
  pub hertz : ℕ
  pub first : ℕ
  pub opened : ℕ
  pub last : ℕ
  pub grace : ℕ
  pub pause : Pause
  pub base : ℕ
  pub heard : ℕ

-- where the count of ticks ends: past the last one and its grace
abbrev pub end_of : ClockState → ℕ
end_of c = c.last + c.grace + 1

-- how far ticks are counted
abbrev pub reached : ClockState → ℕ
reached c = min (end_of c) (c.first + ticks_in c.hertz (c.heard - c.base))

-- the tick that it is: it stays at the last one
abbrev pub tick_of : ClockState → ℕ
tick_of c = min c.last (reached c)

-- the least tick that is open: behind one that is closed more ticks were counted than the grace; at the end it is one past the last
abbrev pub open_of : ClockState → ℕ
open_of c = max c.opened (reached c - c.grace)

-- no tick is open any more
abbrev pub is_over : ClockState → Bool
is_over c = open_of c == c.last + 1

-- the range of a clock
pub record IsClock (c : ClockState) : Type 0 where
  pub least : 1 ≤ c.hertz
  pub most : c.hertz ≤ 1000
  pub first : c.first ≤ end_of c
  pub opened : c.opened ≤ c.last + 1
  pub last : c.last ≤ longest_stop widest
  pub base : c.base ≤ c.heard

-- a clock that begins now at the first tick
abbrev pub begun : ℕ → Ticks → Pause → ℕ → ClockState
begun hertz ticks pause now = record {
  hertz = hertz;
  first = min ticks.first (min ticks.last (longest_stop widest) + ticks.grace + 1);
  opened = min ticks.opened (min ticks.last (longest_stop widest) + 1);
  last = min ticks.last (longest_stop widest);
  grace = ticks.grace;
  pause = pause;
  base = now;
  heard = now;
}

-- a moment is heard: an earlier one than another before it counts as that one
abbrev pub heard_at : ℕ → ClockState → ClockState
heard_at now c = record c { heard = max now c.heard }

-- how far ticks are counted at most in a turn
abbrev pub furthest : ClockState → ℕ
furthest c = reached c + max 1 c.grace

-- whether a clock stands for a while that goes on like this: more ticks went by than a turn may pass
abbrev pub stands : Pause → ℕ → ClockState → Bool
stands Stand now c = nat_lt (furthest c) (reached (heard_at now c))
stands Jump now c = false

-- for how long it stood: since the furthest tick of this turn was reached
abbrev pub stood : ℕ → ClockState → ℕ
stood now c = if stands c.pause now c then max now c.heard - (c.base + span_of c.hertz (furthest c - c.first)) else 0

-- a moment is heard, and for as long as the clock stood its base moves on
abbrev pub turned : ℕ → ClockState → ClockState
turned now c = record c { base = c.base + stood now c; heard = max now c.heard }

-- what a turn tells
abbrev pub tells : ℕ → ClockState → Turned
tells now c = record { passed = tick_of (turned now c) - tick_of c; stood = stood now c }

-- when a tick is reached, by the base
abbrev pub moment_of : ℕ → ClockState → ℕ
moment_of tick c = min never (c.base + span_of c.hertz (tick - c.first))

-- when the next tick is counted, or never
abbrev pub due_of : ClockState → ℕ
due_of c = if reached c == end_of c then never else moment_of (reached c + 1) c

-- how many milliseconds it is since tick 0
abbrev pub millis_of : ClockState → ℕ
millis_of c = min never (span_of c.hertz c.first + (c.heard - c.base)) / 1000

-- turns at these moments, one after another
abbrev pub after_turns : List ℕ → ClockState → ClockState
after_turns [] c = c
after_turns (now ∷ moments) c = after_turns moments (turned now c)

-- the latest of these moments
abbrev pub latest : List ℕ → ℕ → ℕ
latest [] heard = heard
latest (now ∷ moments) heard = latest moments (max now heard)

-- in none of these turns the clock stands
abbrev pub NeverStands : List ℕ → ClockState → Type 0
NeverStands [] c = Unit
NeverStands (now ∷ moments) c = (stood now c ≡ 0) × NeverStands moments (turned now c)
