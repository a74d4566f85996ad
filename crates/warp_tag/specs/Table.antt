-- Tables of names: what is known of each name (origin, tag), in order of tag, then of origin.
use Rattle.std.specs.Prelude.{ℕ, ℤ, Bool, true, false, ◌==◌, ◌&&◌, ◌||◌, nat_lt, Option, Some, None, List, [], ◌∷◌, if◌then◌else◌, IsTrue, find, int_lt}
use Rattle.std.specs.Option.{option_map}
use Rattle.std.specs.List.{filter_map, AllByRecursion}
use Rattle.warp_tag.specs.Moment.{Moment, is_before, is_same}
use Rattle.warp_tag.specs.declared.entry.Entry.{Entry}

-- the name comes before the entry's: by tag, then by origin
abbrev pub name_before : ℕ → Moment → Entry → Bool
name_before origin tag e = is_before tag e.tag || (is_same tag e.tag && nat_lt origin e.origin)

-- the entry is of this name
abbrev pub has_name : ℕ → Moment → Entry → Bool
has_name origin tag e = is_same tag e.tag && origin == e.origin

-- each name once, in order
abbrev pub IsTable : List Entry → Type 0
IsTable [] = Unit {0}
IsTable (e ∷ es) = AllByRecursion (λ d. IsTrue (name_before e.origin e.tag d)) es × IsTable es

-- a name of which nothing is known yet
abbrev pub fresh : ℕ → Moment → Entry
fresh origin tag = record { origin = origin; tag = tag; event = None; withdrawn = false }

-- the table after a change of what is known of one name, which comes in where it is new
abbrev pub changed : (Entry → Entry) → ℕ → Moment → List Entry → List Entry
changed change origin tag [] = change (fresh origin tag) ∷ []
changed change origin tag (e ∷ es) =
    if name_before origin tag e
    then change (fresh origin tag) ∷ e ∷ es
    else (if has_name origin tag e then change e ∷ es else e ∷ changed change origin tag es)

-- what the table knows of the name
abbrev pub known : ℕ → Moment → List Entry → Option Entry
known origin tag es = find (has_name origin tag) es

-- an input and a value: the lesser one, by input, then by value
abbrev pub is_lesser : ℕ × ℤ → ℕ × ℤ → Bool
is_lesser p q = nat_lt p.0 q.0 || (p.0 == q.0 && int_lt p.1 q.1)

-- of several payloads of one name the greatest counts
abbrev pub greater : Option (ℕ × ℤ) → ℕ × ℤ → ℕ × ℤ
greater None q = q
greater (Some p) q = if is_lesser p q then q else p

-- after an event with this input and value
abbrev pub with_event : ℕ → ℤ → Entry → Entry
with_event input value e = record e { event = Some (greater e.event (input, value)) }

-- after a withdrawal, which holds for good
abbrev pub with_withdrawal : Entry → Entry
with_withdrawal e = record e { withdrawn = true }

-- an event: its name, and the payload that counts
pub record Event : Type 0 where
  pub origin : ℕ
  pub tag : Moment
  pub input : ℕ
  pub value : ℤ

-- the entry's event, where one came and none of its name is withdrawn
abbrev pub live_event : Entry → Option Event
live_event e =
    if e.withdrawn
    then None
    else option_map (λ p. record { origin = e.origin; tag = e.tag; input = p.0; value = p.1 }) e.event

-- the live events of a table, in its order
abbrev pub live : List Entry → List Event
live es = filter_map live_event es
