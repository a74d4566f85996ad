-- The shape of an arena: how its links spell its lists. Public clauses cite `IsGap` alone.
use Rattle.std.specs.Prelude.{not, ◌≡◌, ◌≢◌, true, IsSome, IsSomeAnd, ℕ, zero, suc, ◌+◌, ◌-◌, ◌<◌, ◌≤◌, ◌==◌, nat_lt, List, [], ◌∷◌, if◌then◌else◌, map, filter, length, slice_index_or}
use Rattle.std.specs.List.{AllByRecursion}
use Rattle.warp_tag.specs.Moment.{Moment}
use Rattle.warp_tag.specs.Limits.{most_names}
use Rattle.warp_tag.specs.Table.{IsTable, fresh, name_before}
use Rattle.warp_tag.specs.declared.entry.Entry.{Entry}
use Rattle.warp_arena.specs.declared.node.Gap.{Gap}
use Rattle.warp_arena.specs.declared.node.Links.{Links}
use Rattle.warp_arena.specs.declared.node.Node.{Node}
use Rattle.warp_arena.specs.declared.node.Origin.{Origin}
use Rattle.warp_arena.specs.declared.node.TheConstants.{NO_NODE}
use Rattle.warp_arena.specs.Places.{Place, Contents, Room, entry_of, places_of}

-- the links of a list without a node
abbrev pub no_links : Links
no_links = record { next = NO_NODE; prev = NO_NODE }

-- what a read past the origins gives
abbrev pub no_origin : Origin
no_origin = record { ends = no_links; touched = NO_NODE }

-- what a read past the nodes gives
abbrev pub no_node : Node
no_node =
    record { entry = fresh 0 (record { time = 0; microstep = 0 }); by_tag = no_links; of_origin = no_links }

-- the node at an index
abbrev pub node_at : List Node → ℕ → Node
node_at nodes i = slice_index_or nodes i no_node

-- the entry at an index
abbrev pub entry_at : List Node → ℕ → Entry
entry_at nodes i = (node_at nodes i).entry

-- a node's links in the tag list
abbrev pub by_tag : List Node → ℕ → Links
by_tag nodes i = (node_at nodes i).by_tag

-- a node's links in its origin's list
abbrev pub of_origin : List Node → ℕ → Links
of_origin nodes i = (node_at nodes i).of_origin

-- the place after a place of a list, where NO_NODE stands for both ends of the list
abbrev pub next_in : Links → (ℕ → Links) → ℕ → ℕ
next_in ends links i = if i == NO_NODE then ends.next else (links i).next

-- the place before a place of a list
abbrev pub prev_in : Links → (ℕ → Links) → ℕ → ℕ
prev_in ends links i = if i == NO_NODE then ends.prev else (links i).prev

-- the first of these indices, or this one where there is none
abbrev pub first_or : List ℕ → ℕ → ℕ
first_or [] to = to
first_or (i ∷ is) to = i

-- the last of these indices, or this one where there is none
abbrev pub last_or : ℕ → List ℕ → ℕ
last_or from [] = from
last_or from (i ∷ is) = last_or i is

-- so many indices, read off the links after a place
abbrev pub walk : (ℕ → ℕ) → ℕ → ℕ → List ℕ
walk next zero from = []
walk next (suc count) from = next from ∷ walk next count (next from)

-- the links lead from one place through these indices to the other place
abbrev pub IsPath : (ℕ → ℕ) → ℕ → List ℕ → ℕ → Type 0
IsPath next from [] to = next from ≡ to
IsPath next from (i ∷ is) to = (next from ≡ i) × IsPath next i is to

-- the links lead from one place through these indices to the other place, and back
abbrev pub IsChain : (ℕ → ℕ) → (ℕ → ℕ) → ℕ → List ℕ → ℕ → Type 0
IsChain next prev from [] to = (next from ≡ to) × (prev to ≡ from)
IsChain next prev from (i ∷ is) to = (next from ≡ i) × (prev i ≡ from) × IsChain next prev i is to

-- the links with these ends of a list spell these nodes, forwards and backwards
abbrev pub Spells : Links → (ℕ → Links) → List ℕ → Type 0
Spells ends links is = IsChain (next_in ends links) (prev_in ends links) NO_NODE is NO_NODE

-- how often an index stands in a list
abbrev pub count_of : ℕ → List ℕ → ℕ
count_of i [] = 0
count_of i (j ∷ js) = (if j == i then 1 else 0) + count_of i js

-- the index is one of these, or NO_NODE
abbrev pub IsOneOf : List ℕ → ℕ → Type 0
IsOneOf is i = i ≢ NO_NODE → 0 < count_of i is

-- what an arena's nodes say, each at its index: the entries, the links of the tag list and of the origins'
-- lists with their ends, the node of each origin that was touched last, and the first unused node
pub record Threads : Type 0 where
  pub size : ℕ
  pub origins : ℕ
  pub entry : ℕ → Entry
  pub links : ℕ → Links
  pub ends : Links
  pub own_links : ℕ → Links
  pub own_ends : ℕ → Links
  pub touched : ℕ → ℕ
  pub free : ℕ

-- the ends of the free list
abbrev pub free_ends : ℕ → Links
free_ends free = record { next = free; prev = NO_NODE }

-- the indices of one origin's entries
abbrev pub members : (ℕ → Entry) → ℕ → List ℕ → List ℕ
members entry origin is = filter (λ i. (entry i).origin == origin) is

-- The shape of an arena with these used nodes, in order of tag, then of origin, and these unused ones. The
-- forward links spell the used nodes and the backward links spell them backwards; each origin's forward and
-- backward links spell its own nodes in order; the node that an origin touched last is one of its own, or NO_NODE; the
-- free links spell the unused ones; each index is used once or unused once.
pub record IsArena (t : Threads) (used unused : List ℕ) : Type 0 where
  pub small : t.size ≤ most_names
  pub sorted : IsTable (map t.entry used)
  pub declared : AllByRecursion (λ i. (t.entry i).origin < t.origins) used
  pub spelled : Spells t.ends t.links used
  pub own : (o : ℕ) → o < t.origins → Spells (t.own_ends o) t.own_links (members t.entry o used)
  pub touched : (o : ℕ) → o < t.origins → IsOneOf (members t.entry o used) (t.touched o)
  pub free : IsPath (next_in (free_ends t.free) t.links) NO_NODE unused NO_NODE
  pub once : (i : ℕ) → count_of i used + count_of i unused ≡ (if nat_lt i t.size then 1 else 0)

-- what these nodes and origins, with these ends of the tag list and this first unused node, say
abbrev pub threads_of : List Node → List Origin → Links → ℕ → Threads
threads_of nodes origins ends free =
    record {
      size = length nodes;
      origins = length origins;
      entry = entry_at nodes;
      links = by_tag nodes;
      ends = ends;
      own_links = of_origin nodes;
      own_ends = λ o. (slice_index_or origins o no_origin).ends;
      touched = λ o. (slice_index_or origins o no_origin).touched;
      free = free;
    }

-- the used nodes, read off the links of the tag list
abbrev pub used_of : Threads → ℕ → List ℕ
used_of t count = walk (next_in t.ends t.links) count NO_NODE

-- the unused nodes, read off the links of the free list
abbrev pub unused_of : Threads → ℕ → List ℕ
unused_of t count = walk (next_in (free_ends t.free) t.links) count NO_NODE

-- the place of the entry at an index
abbrev pub place_at : (ℕ → Entry) → ℕ → Place
place_at entry i = record { node = i; entry = entry i }

-- what an arena with these nodes, so many used ones and this room holds
abbrev pub contents_of : Threads → ℕ → Room → Contents
contents_of t count room =
    record {
      origins = t.origins;
      places = map (place_at t.entry) (used_of t count);
      free = t.size - count;
      room = room;
    }

-- so many nodes are used, and the links give them the shape of an arena
pub record IsWhole (t : Threads) (count : ℕ) : Type 0 where
  pub fits : count ≤ t.size
  pub shape : IsArena t (used_of t count) (unused_of t (t.size - count))

-- an entry whose name is after another names a place: an unused node has the least of all names
abbrev pub AreUsed : (ℕ → Entry) → List Place → Type 0
AreUsed entry places = (i origin : ℕ) (tag : Moment) → name_before origin tag (entry i) ≡ true → IsSome (entry_of i places)

-- each hint is the index of a node
abbrev pub AreHints : ℕ → List ℕ → Type 0
AreHints size hints = AllByRecursion (λ h. h < size) hints

-- the links have the shape of an arena, unused nodes have the least of all names, and each hint is a node
pub record IsHinted (t : Threads) (count : ℕ) (hints own : List ℕ) : Type 0 where
  pub whole : IsWhole t count
  pub used : AreUsed t.entry (map (place_at t.entry) (used_of t count))
  pub hinted : AreHints t.size hints
  pub own_hinted : AreHints t.size own

-- the handle of the last of these places whose name is not after this one, or NO_NODE where all names are
abbrev pub last_not_after : ℕ → Moment → List Place → ℕ
last_not_after origin tag places =
    last_or NO_NODE (map (λ p. p.node) (filter (λ p. not (name_before origin tag p.entry)) places))

-- the handle of the first of these places whose name is after this one, or NO_NODE where none is
abbrev pub first_after : ℕ → Moment → List Place → ℕ
first_after origin tag places =
    first_or (map (λ p. p.node) (filter (λ p. name_before origin tag p.entry) places)) NO_NODE

-- the name belongs between these of all places, and between these of its origin's
pub record IsGap (origin : ℕ) (tag : Moment) (places : List Place) (gap : Gap) : Type 0 where
  pub before : gap.before ≡ last_not_after origin tag places
  pub after : gap.after ≡ first_after origin tag places
  pub own_before : gap.own_before ≡ last_not_after origin tag (places_of origin places)
  pub own_after : gap.own_after ≡ first_after origin tag (places_of origin places)

-- the entry is of this origin, and its name is after this one
abbrev pub IsOwnAfter : ℕ → Moment → Entry → Type 0
IsOwnAfter origin tag e = (e.origin ≡ origin) × (name_before origin tag e ≡ true)

-- the handle is of an entry of this origin, whose name is after this one
abbrev pub IsAfter : ℕ → Moment → ℕ → List Place → Type 0
IsAfter origin tag node places =
    IsSomeAnd (entry_of node places) (λ e. (e.origin ≡ origin) × (name_before origin tag e ≡ true))

-- the handle is of an entry whose name is after this one
abbrev pub IsBehind : ℕ → Moment → ℕ → List Place → Type 0
IsBehind origin tag node places = IsSomeAnd (entry_of node places) (λ e. name_before origin tag e ≡ true)
