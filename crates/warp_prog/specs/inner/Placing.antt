-- How the code lists what precedes a reaction, and places reactions by these lists: for the proofs of that alone.
use Rattle.std.specs.Prelude.{◌≡◌, ◌<◌, length, ℕ, zero, suc, Bool, true, false, not, ◌&&◌, ◌||◌, ◌==◌, ◌+◌, nat_lt, List, [], ◌∷◌, ◌++◌, map, filter, Option, Some, None, is_none, get_or, slice_set, if◌then◌else◌}
use Rattle.std.specs.Option.{option_map_or}
use Rattle.std.specs.List.{list_any, list_all}
use Rattle.std.specs.declared.vec.Vec.{Vec}
use Rattle.warp_body.specs.declared.place.Target.TheVariants as to
use Rattle.warp_step.specs.Program.{Rule}
use Rattle.warp_step.specs.Named.{names}
use Rattle.warp_step.specs.declared.parts.Link.{Link}
use Rattle.warp_prog.specs.Order.{stands_in}

-- a list of numbers
abbrev pub numbers_of : {Z : Type 0} → Vec ℕ Z → List ℕ
numbers_of v = v.items

-- the flag of a number; false where there is none
abbrev pub has_flag : List Bool → ℕ → Bool
has_flag flags n = get_or flags n false

-- a reaction that has no flag, while those before it have theirs
abbrev pub may_follow : List Bool → ℕ → List ℕ → Bool
may_follow placed n before = not (has_flag placed n) && list_all (has_flag placed) before

-- the first of these, where what stands before each is listed; they are numbered from this one on
abbrev pub first_free : List Bool → ℕ → List (List ℕ) → Option ℕ
first_free placed n [] = None
first_free placed n (before ∷ rest) = if may_follow placed n before then Some n else first_free placed (n + 1) rest

-- so many more behind an order, each of which then has its flag; fewer, where none may follow
abbrev pub placed_behind : ℕ → List (List ℕ) → List Bool → List ℕ → List ℕ
placed_behind zero before placed order = order
placed_behind (suc n) before placed order =
    option_map_or (λ next. placed_behind n before (slice_set placed next true) (order ++ next ∷ [])) (first_free placed 0 before) order

-- the outputs that lead without delay to an input that a reaction names
abbrev pub reads_by : Rule → Link → Bool
reads_by r l = is_none l.delay && names (r.triggers ++ r.reads) (to.Port l.target)

abbrev pub sources_read : Rule → List Link → List ℕ
sources_read r ls = map (λ l. l.source) (filter (reads_by r) ls)

-- whether a reaction precedes another that reads these sources without delay
abbrev pub comes_before : Rule → ℕ → Rule → ℕ → List ℕ → Bool
comes_before first m second n sources =
    (first.reactor == second.reactor && nat_lt m n) || list_any (λ p. names first.writes (to.Port p)) sources

-- marks for the first numbers: whether each is among these
abbrev pub AreMarks : List Bool → List ℕ → Type 0
AreMarks marks numbers = (n : ℕ) → n < length marks → has_flag marks n ≡ stands_in numbers n

-- a number behind a list, where a test says so
abbrev pub with_number : Bool → ℕ → List ℕ → List ℕ
with_number test n ns = if test then ns ++ n ∷ [] else ns

-- whether a reaction waits for another one, where those before each are listed
abbrev pub awaits : List (List ℕ) → ℕ → ℕ → Bool
awaits before n m = stands_in (get_or before n []) m
