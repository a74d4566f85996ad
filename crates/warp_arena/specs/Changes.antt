-- What the private calls on nodes do to their links. No public clause cites this module.
use Rattle.std.specs.Prelude.{◌≡◌, ◌≢◌, Bool, true, ℕ, ◌<◌, List, length}
use Rattle.warp_tag.specs.Moment.{Moment, is_before}
use Rattle.warp_tag.specs.Table.{fresh, name_before}
use Rattle.warp_tag.specs.declared.entry.Entry.{Entry}
use Rattle.warp_arena.specs.declared.node.Links.{Links}
use Rattle.warp_arena.specs.declared.node.Node.{Node}
use Rattle.warp_arena.specs.declared.node.TheConstants.{NO_NODE}
use Rattle.warp_arena.specs.Shape.{no_node, entry_at, by_tag, of_origin, next_in, prev_in}

-- the place is an end of a list, or one of so many nodes
abbrev pub IsPlace : ℕ → ℕ → Type 0
IsPlace size i = i ≢ NO_NODE → i < size

-- the place is an end of a list, or the name of its entry comes before this one
abbrev pub IsPassed : ℕ → Moment → List Node → ℕ → Type 0
IsPassed origin tag nodes i = i ≢ NO_NODE → name_before (entry_at nodes i).origin (entry_at nodes i).tag (fresh origin tag) ≡ true

-- the tag of the entry at a place is after this one
abbrev pub is_later : List Node → Moment → ℕ → Bool
is_later nodes tag i = is_before tag (entry_at nodes i).tag

-- a node can come into a list behind a place: that and the place after it are places, and it is neither
pub record CanThread (size : ℕ) (next : ℕ → ℕ) (before at : ℕ) : Type 0 where
  pub before_in : IsPlace size before
  pub after_in : IsPlace size (next before)
  pub at_in : at < size
  pub at_node : at ≢ NO_NODE
  pub not_before : before ≢ at
  pub not_after : next before ≢ at

-- the first node of a list can go from it
pub record CanUnthread (size : ℕ) (next : ℕ → ℕ) (at : ℕ) : Type 0 where
  pub at_in : at < size
  pub at_node : at ≢ NO_NODE
  pub after_in : IsPlace size (next at)

-- the new links lead on from this place to that one, and are the old ones elsewhere
pub record SetsNext (ends ends' : Links) (links links' : ℕ → Links) (at to : ℕ) : Type 0 where
  pub here : next_in ends' links' at ≡ to
  pub nexts : (i : ℕ) → i ≢ at → next_in ends' links' i ≡ next_in ends links i
  pub prevs : (i : ℕ) → prev_in ends' links' i ≡ prev_in ends links i

-- the new links lead back from this place to that one, and are the old ones elsewhere
pub record SetsPrev (ends ends' : Links) (links links' : ℕ → Links) (at to : ℕ) : Type 0 where
  pub here : prev_in ends' links' at ≡ to
  pub nexts : (i : ℕ) → next_in ends' links' i ≡ next_in ends links i
  pub prevs : (i : ℕ) → i ≢ at → prev_in ends' links' i ≡ prev_in ends links i

-- only links of the tag list differ
pub record KeepsButTags (old new : List Node) : Type 0 where
  pub len : length new ≡ length old
  pub entries : (i : ℕ) → entry_at new i ≡ entry_at old i
  pub own : (i : ℕ) → of_origin new i ≡ of_origin old i

-- only links of an origin's list differ
pub record KeepsButOwn (old new : List Node) : Type 0 where
  pub len : length new ≡ length old
  pub entries : (i : ℕ) → entry_at new i ≡ entry_at old i
  pub tags : (i : ℕ) → by_tag new i ≡ by_tag old i

-- only the entry of this node differs, which is this one
pub record SetsEntry (old new : List Node) (at : ℕ) (entry : Entry) : Type 0 where
  pub len : length new ≡ length old
  pub here : entry_at new at ≡ entry
  pub entries : (i : ℕ) → i ≢ at → entry_at new i ≡ entry_at old i
  pub tags : (i : ℕ) → by_tag new i ≡ by_tag old i
  pub own : (i : ℕ) → of_origin new i ≡ of_origin old i

-- the new links put a place between two others, and are the old ones elsewhere
pub record Inserts (next prev next' prev' : ℕ → ℕ) (before at after : ℕ) : Type 0 where
  pub into : next' before ≡ at
  pub out : next' at ≡ after
  pub back_into : prev' after ≡ at
  pub back_out : prev' at ≡ before
  pub nexts : (i : ℕ) → i ≢ before → i ≢ at → next' i ≡ next i
  pub prevs : (i : ℕ) → i ≢ after → i ≢ at → prev' i ≡ prev i

-- the new links pass over the place after this one, and are the old ones elsewhere
pub record Skips (next prev next' prev' : ℕ → ℕ) (from at : ℕ) : Type 0 where
  pub into : next' from ≡ next at
  pub back_into : prev' (next at) ≡ from
  pub nexts : (i : ℕ) → i ≢ from → i ≢ at → next' i ≡ next i
  pub prevs : (i : ℕ) → i ≢ next at → i ≢ at → prev' i ≡ prev i

-- the node has this entry, and stands after these places in the tag list and in the origin's list
pub record Threaded (old new : List Node) (ends ends' own own' : Links) (before own_before at : ℕ) (entry : Entry) : Type 0 where
  pub len : length new ≡ length old
  pub here : entry_at new at ≡ entry
  pub entries : (i : ℕ) → i ≢ at → entry_at new i ≡ entry_at old i
  pub tags :
      Inserts (next_in ends (by_tag old)) (prev_in ends (by_tag old)) (next_in ends' (by_tag new)) (prev_in ends' (by_tag new))
      before at (next_in ends (by_tag old) before)
  pub owns :
      Inserts (next_in own (of_origin old)) (prev_in own (of_origin old)) (next_in own' (of_origin new)) (prev_in own' (of_origin new))
      own_before at (next_in own (of_origin old) own_before)

-- the first node of the tag list and of the origin's list is in neither, leads to the first unused node, and has the
-- least of all names
pub record Unthreaded (old new : List Node) (ends ends' own own' : Links) (at free : ℕ) : Type 0 where
  pub len : length new ≡ length old
  pub here : entry_at new at ≡ no_node.entry
  pub entries : (i : ℕ) → i ≢ at → entry_at new i ≡ entry_at old i
  pub tags :
      Skips (next_in ends (by_tag old)) (prev_in ends (by_tag old)) (next_in ends' (by_tag new)) (prev_in ends' (by_tag new)) NO_NODE at
  pub owns :
      Skips (next_in own (of_origin old)) (prev_in own (of_origin old)) (next_in own' (of_origin new)) (prev_in own' (of_origin new)) NO_NODE at
  pub freed : (by_tag new at).next ≡ free
