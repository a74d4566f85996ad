-- Marks that tell who is to be looked at.
use Rattle.std.specs.Prelude.{◌≡◌, ℕ, ◌+◌, true, List, Some, is_some, slice_get}
use Rattle.std.specs.List.{list_any}
use Rattle.warp_body.specs.Presence.{Presence, present_at}
use Rattle.warp_body.specs.declared.place.Target.{Target}
use Rattle.warp_step.specs.inner.Marks.{first_link, first_output, first_reaction, mark_at}
use Rattle.warp_step.specs.inner.Plan.{in_turn, link_heeds, output_heeds, reaction_heeds}
use Rattle.warp_step.specs.Program.{Program}

-- each element of a list that something present triggers is marked; the first mark is at this number
abbrev pub AreMarked : {X : Type 0} → (ℕ → X → List Target) → ℕ → List X → Presence → ℕ → Type 0
AreMarked {X} triggers first xs present word =
    (n : ℕ) (x : X) → slice_get xs n ≡ Some x → list_any (λ target. is_some (present_at present target)) (triggers n x) ≡ true → mark_at word (first + n) ≡ 1

-- all that are to be looked at are marked
pub record AreDue (P : Program) (present : Presence) (word : ℕ) : Type 0 where
  pub reactions : AreMarked reaction_heeds first_reaction (in_turn P) present word
  pub links : AreMarked link_heeds (first_link P) P.links present word
  pub outputs : AreMarked output_heeds (first_output P) P.outputs present word
