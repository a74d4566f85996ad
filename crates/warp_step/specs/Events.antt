-- The events that a program takes.
use Rattle.std.specs.Prelude.{ℕ, Bool, ◌&&◌, ◌==◌, nat_lt, nat_le, IsTrue, length, map, slice_index}
use Rattle.warp_tag.specs.Moment.{Moment}
use Rattle.warp_tag.specs.Table.{Event}
use Rattle.warp_step.specs.Program.{Program, top_of}

-- the origin is one of the program's
abbrev pub is_declared : Program → ℕ → Bool
is_declared P origin = nat_lt origin P.origins

-- the tag is not past the stop, nor past the last microstep of its time
abbrev pub is_in_time : Program → Moment → Bool
is_in_time P tag = nat_le tag.time P.stop && nat_le tag.microstep (top_of P)

-- the program has an input with this number
abbrev pub has_input : Program → ℕ → Bool
has_input P input = nat_lt input (length P.inputs)

-- the input with this number is the origin's
abbrev pub owns_input : Program → ℕ → ℕ → Bool
owns_input P origin input = slice_index (map (λ i. i.origin) P.inputs) input == origin

-- the program takes a withdrawal of a name of this origin, at this tag
abbrev pub takes_name : Program → ℕ → Moment → Bool
takes_name P origin tag = is_declared P origin && is_in_time P tag

-- the same, as a fact
abbrev pub IsNameOf : Program → ℕ → Moment → Type 0
IsNameOf P origin tag = IsTrue (takes_name P origin tag)

-- the program takes an event of this origin, at this tag, for this input
abbrev pub takes : Program → ℕ → Moment → ℕ → Bool
takes P origin tag input = is_declared P origin && is_in_time P tag && has_input P input && owns_input P origin input

-- the same, as a fact
abbrev pub IsEventOf : Program → ℕ → Moment → ℕ → Type 0
IsEventOf P origin tag input = IsTrue (takes P origin tag input)

-- the program takes this event
abbrev pub event_fits : Program → Event → Bool
event_fits P e = takes P e.origin e.tag e.input
