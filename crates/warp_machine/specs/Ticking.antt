-- The rounds in which a host closes what it keeps.
use Rattle.std.specs.Prelude.{◌≡◌, Bool, Option, Some, None}
use Rattle.warp_tag.specs.Moment.{Moment}
use Rattle.warp_clock.specs.Closing.{round_of}
use Rattle.warp_machine.specs.declared.ticking.HostClock.{HostClock}

-- by this clock a round up to this tag is due, where something lies open or nothing does
abbrev pub IsRound : HostClock → Moment → Type 0
IsRound c tag = (is_open : Bool) × (round_of is_open c.clock c.closing ≡ Some tag)

-- so by the clock of a host, which has one
abbrev pub IsRoundOf : Option HostClock → Moment → Type 0
IsRoundOf None tag = ⊥
IsRoundOf (Some c) tag = IsRound c tag
