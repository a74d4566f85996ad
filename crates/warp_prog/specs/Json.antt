-- Objects and lists of a file.
use Rattle.std.specs.Prelude.{ℕ, Bool, true, false, ◌&&◌, ◌||◌, List, [], ◌∷◌, Option, Some, None, bytes_eq, if◌then◌else◌}
use Rattle.serde_json.specs.Data.{Data, object, Items, no_items, item, Members, no_members, member}
use Rattle.serde_json.specs.Find.{get, as_array}
use Rattle.warp_prog.specs.Chain.{◌>>=◌}

-- whether a key is one of these
abbrev pub is_one_of : List (List ℕ) → List ℕ → Bool
is_one_of [] key = false
is_one_of (k ∷ ks) key = bytes_eq k key || is_one_of ks key

-- whether each member's key is one of these
abbrev pub are_keys : List (List ℕ) → Members → Bool
are_keys keys no_members = true
are_keys keys (member k d ms) = is_one_of keys k && are_keys keys ms

-- whether this is an object whose keys are all among these
abbrev pub has_only : List (List ℕ) → Data → Bool
has_only keys (object ms) = are_keys keys ms
has_only keys _ = false

-- this object, if its keys are all among these
abbrev pub with_keys : List (List ℕ) → Data → Option Data
with_keys keys d = if has_only keys d then Some d else None

-- the items of a list that may be there; none where the key is not there
abbrev pub items_or_none : Option Data → Option Items
items_or_none None = Some no_items
items_or_none (Some d) = as_array d

-- the items of the list under a key
abbrev pub items_at : List ℕ → Data → Option Items
items_at key d = items_or_none (get key d)

-- the items, each read by this
abbrev pub each : {A : Type 0} → (Data → Option A) → Items → Option (List A)
each f no_items = Some []
each f (item d ds) = do
  x ← f d
  xs ← each f ds
  Some (x ∷ xs)

-- a list, each of whose items is read by this
abbrev pub list_at : {A : Type 0} → (Data → Option A) → List ℕ → Data → Option (List A)
list_at f key d = items_at key d >>= each f

-- a list, if something is in it
abbrev pub unless_empty : {A : Type 0} → List A → Option (List A)
unless_empty [] = None
unless_empty (x ∷ xs) = Some (x ∷ xs)

-- two items
abbrev pub two_items : Items → Option (Data × Data)
two_items (item a (item b no_items)) = Some (a, b)
two_items _ = None

-- three items
abbrev pub three_items : Items → Option (Data × Data × Data)
three_items (item a (item b (item c no_items))) = Some (a, b, c)
three_items _ = None

-- four items
abbrev pub four_items : Items → Option (Data × Data × Data × Data)
four_items (item a (item b (item c (item d no_items)))) = Some (a, b, c, d)
four_items _ = None

-- the four values of a list of four
abbrev pub four_of : Data → Option (Data × Data × Data × Data)
four_of d = as_array d >>= four_items

-- the two values of a list of two
abbrev pub pair_of : Data → Option (Data × Data)
pair_of d = as_array d >>= two_items

-- the three values of a list of three
abbrev pub triple_of : Data → Option (Data × Data × Data)
triple_of d = as_array d >>= three_items
