-- The entries at a tag, of which so many are taken one after another.
use Rattle.std.specs.Prelude.{◌≡◌, ℕ, IsTrue, List, ◌++◌, map, take, drop, filter}
use Rattle.std.specs.List.{list_all}
use Rattle.warp_tag.specs.Moment.{Moment, is_before, is_same}
use Rattle.warp_body.specs.Presence.{Presence}
use Rattle.warp_body.specs.declared.place.Target.{Target}
use Rattle.warp_step.specs.Program.{Program}
use Rattle.warp_step.specs.Snapshot.{Snapshot}
use Rattle.warp_step.specs.Step.{arrived_entries, without_entries}
use Rattle.warp_step.specs.inner.Again.{again_each}
use Rattle.warp_step.specs.declared.pending.Waiting.{Waiting}

-- the entries at a tag
abbrev pub here : Moment → List Waiting → List Waiting
here t ws = filter (λ w. is_same w.tag t) ws

-- the targets of entries
abbrev pub targets : List Waiting → List Target
targets ws = map (λ w. w.target) ws

-- with these entries in front
abbrev pub with_front : List Waiting → Snapshot → Snapshot
with_front ws s = record s { pending = ws ++ s.pending }

-- so many entries at the tag are taken
pub record SoFar (P : Program) (t : Moment) (old : Snapshot) (n : ℕ) (now : Snapshot) (before after : Presence) : Type 0 where
  pub state : now ≡ with_front (drop n (here t old.pending)) (again_each P t (targets (take n (here t old.pending))) (without_entries t old))
  pub later : IsTrue (list_all (λ w. is_before t w.tag) (again_each P t (targets (take n (here t old.pending))) (without_entries t old)).pending)
  pub present : after ≡ arrived_entries (take n (here t old.pending)) before
