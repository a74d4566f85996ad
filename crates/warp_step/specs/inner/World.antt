-- What the reactions of a step share, for proofs about their order.
use Rattle.std.specs.Prelude.{ℕ, ℤ, Bool, List, [], slice_set, if◌then◌else◌}
use Rattle.warp_body.specs.Presence.{Presence, with_value}
use Rattle.warp_body.specs.Cell.{with_cell}
use Rattle.warp_body.specs.Effect.{Effect, effect_of}
use Rattle.warp_body.specs.declared.place.Target.TheVariants as to
use Rattle.warp_body.specs.declared.stmt.Wish.{Wish}
use Rattle.warp_step.specs.Program.{Rule}
use Rattle.warp_step.specs.Step.{Reacting, is_triggered}

-- the variables, and what is present
pub record World : Type 0 where
  pub vars : List ℤ
  pub present : Presence

-- with a variable set, and with a port present
abbrev pub with_variable : ℕ → ℤ → World → World
with_variable k v w = record { vars = slice_set w.vars k v; present = w.present }

abbrev pub with_port : ℕ → ℤ → World → World
with_port port v w = record { vars = w.vars; present = with_value (to.Port port) v w.present }

-- and with a cell set
abbrev pub with_cell_in : ℕ → ℕ → ℤ → ℤ → World → World
with_cell_in first count index v w = record { vars = with_cell w.vars first count index v; present = w.present }

-- a body that has a world before it, and no wishes yet; the world of a body under way; and a change of it
abbrev pub begun : World → Effect
begun w = record { vars = w.vars; present = w.present; wishes = [] }

abbrev pub world_of : Effect → World
world_of now = record { vars = now.vars; present = now.present }

abbrev pub changed : (World → World) → Effect → Effect
changed g now = record { vars = (g (world_of now)).vars; present = (g (world_of now)).present; wishes = now.wishes }

-- the world after a reaction, which runs if it is triggered, and the wishes that it has if it does
abbrev pub after_rule : Rule → World → World
after_rule r w = if is_triggered r w.present then world_of (effect_of r.body (begun w)) else w

abbrev pub wished_by : Rule → World → List Wish
wished_by r w = (effect_of r.body (begun w)).wishes

-- the world of all reactions under way; what they work on, with this world; and the lists of wishes with one set, if so
abbrev pub world_in : Reacting → World
world_in now = record { vars = now.vars; present = now.present }

abbrev pub in_world : World → List (List Wish) → Reacting
in_world w wishes = record { vars = w.vars; present = w.present; wishes = wishes }

abbrev pub set_if : Bool → ℕ → List Wish → List (List Wish) → List (List Wish)
set_if b n ws wishes = if b then slice_set wishes n ws else wishes
