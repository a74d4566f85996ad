-- Pages of lines, and where in them a watcher goes on.
use Rattle.std.specs.Prelude.{◌≡◌, ℕ, ◌+◌, ◌-◌, Bool, false, not, ◌&&◌, nat_le, nat_lt, List, [], ◌∷◌, ◌++◌, Option, Some, None, if◌then◌else◌}
use Rattle.std.specs.List.{range_with_len}
use Rattle.warp_push.specs.declared.marks.Cursor.{Cursor}
use Rattle.warp_push.specs.declared.marks.Given.{Given}

-- the places that a page has, the first and the one behind the last, and whether all is frozen behind them
pub record Span : Type 0 where
  pub from : ℕ
  pub next : ℕ
  pub frozen : Bool

-- the page reaches a watcher: it is not done, and the page does not begin behind its next place
abbrev pub reaches : Span → Cursor → Bool
reaches s c = not c.is_done && nat_le s.from c.next

-- how many lines of the page come before what the watcher has not had, if there is such
abbrev pub lines_before : Span → Cursor → Option ℕ
lines_before s c = if nat_lt c.next s.next then Some (c.next - s.from) else None

-- what a page gives a watcher
abbrev pub given_of : Span → Cursor → Given
given_of s c =
    if reaches s c then record { skipped = 0; behind = lines_before s c; frozen = s.frozen }
    else record { skipped = 0; behind = None; frozen = false }

-- the watcher's next place behind the page
abbrev pub next_behind : Span → Cursor → ℕ
next_behind s c = if nat_lt c.next s.next then s.next else c.next

-- where the watcher is behind the page
abbrev pub cursor_behind : Span → Cursor → Cursor
cursor_behind s c = if reaches s c then record c { next = next_behind s c; is_done = s.frozen } else c

-- the places of a page behind so many lines, if there are such
abbrev pub places_behind : Span → Option ℕ → List ℕ
places_behind s None = []
places_behind s (Some count) = range_with_len (s.from + count) (s.next - (s.from + count))

-- the places whose lines these pages give a watcher, one page after another
abbrev pub places_pushed : List Span → Cursor → List ℕ
places_pushed [] c = []
places_pushed (s ∷ spans) c = places_behind s (given_of s c).behind ++ places_pushed spans (cursor_behind s c)

-- where the watcher is behind these pages
abbrev pub cursor_after : List Span → Cursor → Cursor
cursor_after [] c = c
cursor_after (s ∷ spans) c = cursor_after spans (cursor_behind s c)

-- Whatever pages come: the places that were pushed are those from the watcher's first on, each once and in order, up to
-- its next place.
abbrev pub ArePushedInOrder : List Span → Cursor → Type 0
ArePushedInOrder spans c =
    let end = (cursor_after spans c).next in places_pushed spans c ≡ range_with_len c.next (end - c.next)
