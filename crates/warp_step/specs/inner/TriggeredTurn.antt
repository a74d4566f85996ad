-- A reaction that need not be tested.
use Rattle.std.specs.Prelude.{◌≡◌, ℕ, true, Some, slice_get}
use Rattle.warp_body.specs.Presence.{Presence}
use Rattle.warp_step.specs.Program.{Rule, Program}
use Rattle.warp_step.specs.Step.{is_triggered}
use Rattle.warp_step.specs.inner.Plan.{in_turn}

-- the reaction whose turn this is, if there is one, is triggered
abbrev pub IsTriggeredTurn : Program → Presence → ℕ → Type 0
IsTriggeredTurn P present triggered_turn = (rule : Rule) → slice_get (in_turn P) triggered_turn ≡ Some rule → is_triggered rule present ≡ true
