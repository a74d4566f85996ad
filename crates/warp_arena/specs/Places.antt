-- What an arena holds, as contracts see it: the entries in order, each with the handle that names it.
use Rattle.std.specs.Prelude.{◌≡◌, ℕ, ℤ, false, ◌+◌, ◌<◌, ◌≤◌, max, length, nat_eq, unwrap_or, ◌==◌, not, Option, Some, None, List, [], ◌∷◌, if◌then◌else◌, find, filter, map, drop, IsSome, IfSome, IsTrue}
use Rattle.std.specs.Option.{option_map}
use Rattle.std.specs.List.{AllByRecursion, IsDistinct}
use Rattle.warp_tag.specs.Moment.{Moment, is_before}
use Rattle.warp_tag.specs.Table.{name_before, has_name, fresh, IsTable}
use Rattle.warp_tag.specs.declared.entry.Entry.{Entry}

-- an entry, and the handle that names it
pub record Place : Type 0 where
  pub node : ℕ
  pub entry : Entry

-- for how many elements memory was taken: for nodes in all, for hints, and for hints of one origin
pub record Room : Type 0 where
  pub nodes : ℕ
  pub hints : ℕ
  pub own_hints : ℕ

-- the room of an arena that has taken no memory for a node
abbrev pub no_room : Room
no_room = record { nodes = 0; hints = 0; own_hints = 0 }

-- what an arena holds: how many origins it has, its places in order of tag, then of origin, how many nodes are
-- free, and its room
pub record Contents : Type 0 where
  pub origins : ℕ
  pub places : List Place
  pub free : ℕ
  pub room : Room

-- the room where one more of so many nodes is to have a place: where none is left twice as much, four more at least
abbrev pub room_after : ℕ → ℕ → ℕ
room_after nodes room = if nodes == room then room + max 4 room else room

-- with a node free, and this room for hints: where none was, one more is
abbrev pub with_free : Room → Contents → Contents
with_free room a =
    record a {
      free = max 1 a.free;
      room = record room { nodes = if a.free == 0 then room_after (length a.places) a.room.nodes else a.room.nodes };
    }

-- the room for hints does not shrink, and stays where there is room for a node more
pub record GrowsForHints (old new : Contents) : Type 0 where
  pub hints : old.room.hints ≤ new.room.hints
  pub own_hints : old.room.own_hints ≤ new.room.own_hints
  pub kept : length old.places < old.room.nodes → new.room ≡ record old.room { nodes = new.room.nodes }

-- the entry of a name of which this event is known, if there is one, and nothing else
abbrev pub named : ℕ → Moment → Option (ℕ × ℤ) → Entry
named origin tag event = record { origin = origin; tag = tag; event = event; withdrawn = false }

-- the entries, in order
abbrev pub entries_of : List Place → List Entry
entries_of places = map (λ p. p.entry) places

-- what the handle names
abbrev pub entry_of : ℕ → List Place → Option Entry
entry_of node places = option_map (λ p. p.entry) (find (λ p. p.node == node) places)

-- the handle that names the entry of this name
abbrev pub node_of : ℕ → Moment → List Place → Option ℕ
node_of origin tag places = option_map (λ p. p.node) (find (λ p. has_name origin tag p.entry) places)

-- the handle of the first place
abbrev pub first_node : List Place → Option ℕ
first_node [] = None
first_node (p ∷ ps) = Some p.node

-- the handle of the last place
abbrev pub last_node : List Place → Option ℕ
last_node [] = None
last_node (p ∷ []) = Some p.node
last_node (p ∷ q ∷ ps) = last_node (q ∷ ps)

-- the places from the handle's on
abbrev pub places_from : ℕ → List Place → List Place
places_from node [] = []
places_from node (p ∷ ps) = if p.node == node then p ∷ ps else places_from node ps

-- the places after the handle's
abbrev pub places_after : ℕ → List Place → List Place
places_after node places = drop 1 (places_from node places)

-- the places before the handle's
abbrev pub places_before : ℕ → List Place → List Place
places_before node [] = []
places_before node (p ∷ ps) = if p.node == node then [] else p ∷ places_before node ps

-- the places from where a walk stands: from its handle's on, or none where it is behind the last
abbrev pub left_at : Option ℕ → List Place → List Place
left_at None places = []
left_at (Some node) places = places_from node places

-- a walk along the places stands where this rest is left: at the first of it, or behind the last place
pub record Reaches (places rest : List Place) (at : Option ℕ) : Type 0 where
  pub handle : at ≡ first_node rest
  pub used : IfSome at (λ node. IsSome (entry_of node places))
  pub left : left_at at places ≡ rest

-- the places of one origin
abbrev pub places_of : ℕ → List Place → List Place
places_of origin places = filter (λ p. p.entry.origin == origin) places

-- the places with one more, which comes where the order has it
abbrev pub with_place : Place → List Place → List Place
with_place p [] = p ∷ []
with_place p (q ∷ qs) =
    if name_before p.entry.origin p.entry.tag q.entry then p ∷ q ∷ qs else q ∷ with_place p qs

-- the places after a change of the entry that the handle names
abbrev pub with_change : (Entry → Entry) → ℕ → List Place → List Place
with_change change node places =
    map (λ p. if p.node == node then record { node = p.node; entry = change p.entry } else p) places

-- the places whose tag is after this one
abbrev pub places_past : Moment → List Place → List Place
places_past tag places = filter (λ p. is_before tag p.entry.tag) places

-- the places whose tag is not after this one
abbrev pub places_through : Moment → List Place → List Place
places_through tag places = filter (λ p. not (is_before tag p.entry.tag)) places

-- the origin of the entry that the handle names
abbrev pub origin_of : ℕ → List Place → ℕ
origin_of node places = unwrap_or (option_map (λ e. e.origin) (entry_of node places)) 0

-- the name comes behind each entry
abbrev pub IsBehindAll : ℕ → Moment → List Place → Type 0
IsBehindAll origin tag places =
    (node : ℕ) (e : Entry) → entry_of node places ≡ Some e → IsTrue (name_before e.origin e.tag (fresh origin tag))

-- the entries are in order of tag, then of origin, each name once; each is of an origin of the arena; each has a
-- handle of its own
pub record IsOrdered (a : Contents) : Type 0 where
  pub table : IsTable (entries_of a.places)
  pub declared : AllByRecursion (λ p. p.entry.origin < a.origins) a.places
  pub handles : IsDistinct nat_eq (map (λ p. p.node) a.places)
