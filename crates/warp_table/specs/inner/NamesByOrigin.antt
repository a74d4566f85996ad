-- How what is known of names is kept: the rows of each origin in order of tags, and the names in the order of their first coming.
-- For proofs alone.
use Rattle.std.specs.Prelude.{◌≡◌, ℕ, suc, if◌then◌else◌, IsTrue, Option, Some, None, is_some, List, [], ◌∷◌, map, get_or, AllPairs}
use Rattle.std.specs.Option.{unwrap_or}
use Rattle.warp_tag.specs.Moment.{Moment, is_before, is_same}
use Rattle.warp_table.specs.declared.names.Name.{Name}
use Rattle.warp_table.specs.declared.rows.Known.{Known}
use Rattle.warp_table.specs.declared.rows.NameRow.{NameRow}
use Rattle.warp_table.specs.inner.Kept.{is_named, nothing_known}

-- the rows stand in strict order of tags
abbrev pub AreInOrder : List NameRow → Type 0
AreInOrder rows = AllPairs (λ a b. IsTrue (is_before a.tag b.tag)) rows

-- what the rows say of a tag
abbrev pub row_of : Moment → List NameRow → Option Known
row_of tag [] = None
row_of tag (r ∷ rows) = if is_same tag r.tag then Some r.known else row_of tag rows

-- the place of the first row that is not before the tag
abbrev pub row_place : Moment → List NameRow → ℕ
row_place tag [] = 0
row_place tag (r ∷ rows) = if is_before r.tag tag then suc (row_place tag rows) else 0

-- these rows say this of the tag, and of the others what those of before said
abbrev pub IsWith : Moment → Known → List NameRow → List NameRow → Type 0
IsWith tag known old new = (other : Moment) → row_of other new ≡ (if is_same other tag then Some known else row_of other old)

-- the rows of an origin
abbrev pub rows_at : List (List NameRow) → ℕ → List NameRow
rows_at origins origin = get_or origins origin []

-- what is known of a name
abbrev pub known_in : List (List NameRow) → Name → Option Known
known_in origins name = row_of name.tag (rows_at origins name.origin)

-- names in their order, each with what is known of it
abbrev pub listed : (Name → Option Known) → List Name → List (Name × Known)
listed known order = map (λ name. (name, unwrap_or (known name) nothing_known)) order

-- how often a name stands among these
abbrev pub times_in : Name → List Name → ℕ
times_in name [] = 0
times_in name (n ∷ order) = if is_named name.origin name.tag n then suc (times_in name order) else times_in name order

-- each name of which something is known stands among these once, and no other
abbrev pub AreListed : (Name → Option Known) → List Name → Type 0
AreListed known order = (name : Name) → times_in name order ≡ (if is_some (known name) then 1 else 0)
