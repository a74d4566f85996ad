-- The front of a list of pending entries, for the loop that goes through it.
use Rattle.std.specs.Prelude.{◌≡◌, false, List, [], ◌∷◌}
use Rattle.warp_tag.specs.Moment.{Moment, is_same}
use Rattle.warp_step.specs.declared.pending.Waiting.{Waiting}

-- the first entry, if there is one, has another tag
abbrev pub HasOtherHead : Moment → List Waiting → Type 0
HasOtherHead t [] = Unit {0}
HasOtherHead t (w ∷ ws) = is_same w.tag t ≡ false
