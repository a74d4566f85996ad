-- Places, each with the moment at which its value was put there.
use Rattle.std.specs.Prelude.{ℕ, ℤ, pos, Bool, ◌==◌, nat_le, List, map, Option, Some, None, if◌then◌else◌}
use Rattle.std.specs.List.{list_all}
use Rattle.warp_tag.specs.Moment.{Moment}
use Rattle.warp_body.specs.declared.slots.Slot.{Slot}
use Rattle.warp_body.specs.Presence.{Presence}

-- a place where nothing was put: moments are counted from 1
abbrev pub empty : Slot
empty = record { stamp = 0; value = pos 0 }

-- what a place is present with at a moment
abbrev pub slot : ℕ → Slot → Option ℤ
slot moment s = if s.stamp == moment then Some s.value else None

-- what each place is present with at a moment
abbrev pub slots : ℕ → List Slot → List (Option ℤ)
slots moment places = map (slot moment) places

-- no value was put after this moment
abbrev pub are_past : ℕ → List Slot → Bool
are_past moment places = list_all (λ s. nat_le s.stamp moment) places

-- what is present at a tag and a moment, of places of each kind, and ports with these sources
abbrev pub presence_at : Moment → ℕ → Slot → List Slot → List Slot → List Slot → List ℕ → Presence
presence_at tag moment startup timers actions ports sources = record {
  tag = tag;
  startup = slot moment startup;
  timers = slots moment timers;
  actions = slots moment actions;
  ports = slots moment ports;
  sources = sources;
}
