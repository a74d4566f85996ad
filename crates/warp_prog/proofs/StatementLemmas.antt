-- Statements: which rows a list of values has, and statements one after another.
use Rattle.std.proofs.Common.{◌≡◌, List, ◌∷◌, [], ◌++◌, ◌<◌, ◌≤◌, arith, length, Option, None, option_map, map, drop, ◌+◌, Some, true, false, ℕ, get_or, codes, bytes_eq, sym, ◌∙◌, refl, ap}
use Rattle.std.proofs.lemmas.List.{map-append, at_drop_more, drop_all}
use Rattle.serde_json.specs.View.{view, items_view}
use Rattle.serde_json.specs.declared.value.Value.{Value}
use Rattle.serde_json.specs.Data.{Data, array, Items, item}
use Rattle.warp_prog.specs.File.{NamedStatement, NamedBody, NamedDone, NamedThen}
use Rattle.warp_prog.specs.Statements.{statement_of, statements_of, body_of, assignment_of, scheduling_of, choice_of, cell_set_of, loop_of}
use Rattle.warp_prog.specs.inner.Read.{first_word}
use Rattle.warp_prog.specs.View.{body_tree, statement_tree}
use Rattle.warp_prog.specs.declared.file.Statement.{Statement}

pub no_statement_in_few : (vs : List Value) → length vs < 3 → statement_of (array (items_view vs)) ≡ None
no_statement_in_few [] h = refl
no_statement_in_few (a ∷ []) h = refl
no_statement_in_few (a ∷ (b ∷ [])) h = refl
no_statement_in_few (a ∷ (b ∷ (c ∷ vs))) h = absurd (omega (arith, h))

pub no_statement_in_many : (vs : List Value) → 5 ≤ length vs → statement_of (array (items_view vs)) ≡ None
no_statement_in_many [] h = refl
no_statement_in_many (a ∷ []) h = refl
no_statement_in_many (a ∷ (b ∷ [])) h = refl
no_statement_in_many (a ∷ (b ∷ (c ∷ []))) h = absurd (omega (arith, h))
no_statement_in_many (a ∷ (b ∷ (c ∷ (d ∷ [])))) h = absurd (omega (arith, h))
no_statement_in_many (a ∷ (b ∷ (c ∷ (d ∷ (e ∷ vs))))) h = refl

-- these statements, and then a body
abbrev pub joined : List NamedStatement → NamedBody → NamedBody
joined [] b = b
joined (s ∷ ss) b = NamedThen s (joined ss b)

-- what was read so far, and then the rest
abbrev pub and_then : List NamedStatement → Option NamedBody → Option NamedBody
and_then done rest = option_map (joined done) rest

pub joined_last : (done : List NamedStatement) (s : NamedStatement) (b : NamedBody) → joined (done ++ s ∷ []) b ≡ joined done (NamedThen s b)
joined_last [] s b = refl
joined_last (x ∷ done) s b = ap (NamedThen x) (joined_last done s b)

pub joined_whole : (done : List NamedStatement) → joined done NamedDone ≡ body_tree done
joined_whole [] = refl
joined_whole (x ∷ done) = ap (NamedThen x) (joined_whole done)

pub one_more : (done : List Statement) (s : Statement) (d : Data) (ds : Items) → statement_of d ≡ Some (statement_tree s)
    → and_then (map statement_tree (done ++ s ∷ [])) (statements_of ds) ≡ and_then (map statement_tree done) (statements_of (item d ds))
one_more done s d ds e = rw (e, map-append statement_tree done (s ∷ [])) (go (statements_of ds))
  where
    go : (o : Option NamedBody) → and_then (map statement_tree done ++ statement_tree s ∷ []) o ≡ and_then (map statement_tree done) (option_map (NamedThen (statement_tree s)) o)
    go None = refl
    go (Some b) = ap Some (joined_last (map statement_tree done) (statement_tree s) b)

-- one statement more was read, of the item at this place
pub one_more_at : (done : List Statement) (s : Statement) (vs : List Value) (i : ℕ) (v : Value) → i < length vs → v ≡ get_or vs i v
    → statement_of (view v) ≡ Some (statement_tree s)
    → and_then (map statement_tree (done ++ s ∷ [])) (statements_of (items_view (drop (i + 1) vs))) ≡ and_then (map statement_tree done) (statements_of (items_view (drop i vs)))
one_more_at done s vs i v within here e =
    one_more done s (view (get_or vs i v)) (items_view (drop (i + 1) vs)) (ap (λ x. statement_of (view x)) (sym here) ∙ e)
    ∙ sym (at_drop_more (λ xs. and_then (map statement_tree done) (statements_of (items_view xs))) vs i v within)

-- all were read
pub all_read : (done : List Statement) (vs : List Value) (i : ℕ) → length vs ≤ i
    → and_then (map statement_tree done) (statements_of (items_view (drop i vs))) ≡ Some (body_tree (map statement_tree done))
all_read done vs i past = rw (drop_all i vs past) (ap Some (joined_whole (map statement_tree done)))

-- the rows of an assignment and of a scheduling, of what a match on three and four items knows
pub assignment_row : (vs : List Value) (w : List ℕ) (x y : Value) → 3 ≤ length vs → length vs < 4 → first_word (items_view vs) ≡ Some w
    → x ≡ get_or vs 1 x → y ≡ get_or vs 2 y → statement_of (array (items_view vs)) ≡ assignment_of w (view x) (view y)
assignment_row [] w x y few many word at_x at_y = absurd (omega (arith, few))
assignment_row (a ∷ []) w x y few many word at_x at_y = absurd (omega (arith, few))
assignment_row (a ∷ (b ∷ [])) w x y few many word at_x at_y = absurd (omega (arith, few))
assignment_row (a ∷ (b ∷ (c ∷ []))) w x y few many word at_x at_y = rw (at_x, at_y, word) refl
assignment_row (a ∷ (b ∷ (c ∷ (d ∷ vs)))) w x y few many word at_x at_y = absurd (omega (arith, many))

pub scheduling_row : (vs : List Value) (w : List ℕ) (x y z : Value) → 4 ≤ length vs → length vs < 5 → first_word (items_view vs) ≡ Some w
    → x ≡ get_or vs 1 x → y ≡ get_or vs 2 y → z ≡ get_or vs 3 z → false ≡ bytes_eq w (codes "if") → false ≡ bytes_eq w (codes "while") → false ≡ bytes_eq w (codes "setat")
    → statement_of (array (items_view vs)) ≡ scheduling_of w (view x) (view y) (view z)
scheduling_row [] w x y z few many word at_x at_y at_z no_if no_loop no_cell = absurd (omega (arith, few))
scheduling_row (a ∷ []) w x y z few many word at_x at_y at_z no_if no_loop no_cell = absurd (omega (arith, few))
scheduling_row (a ∷ (b ∷ [])) w x y z few many word at_x at_y at_z no_if no_loop no_cell = absurd (omega (arith, few))
scheduling_row (a ∷ (b ∷ (c ∷ []))) w x y z few many word at_x at_y at_z no_if no_loop no_cell = absurd (omega (arith, few))
scheduling_row (a ∷ (b ∷ (c ∷ (d ∷ [])))) w x y z few many word at_x at_y at_z no_if no_loop no_cell = rw (at_x, at_y, at_z, word, sym no_if, sym no_loop, sym no_cell) refl
scheduling_row (a ∷ (b ∷ (c ∷ (d ∷ (e ∷ vs))))) w x y z few many word at_x at_y at_z no_if no_loop no_cell = absurd (omega (arith, many))

-- those of `if`, of `while` and of `setat`, of what a match on four items knows
pub choice_row : (vs : List Value) (w : List ℕ) (x y z : Value) → 4 ≤ length vs → length vs < 5 → first_word (items_view vs) ≡ Some w
    → x ≡ get_or vs 1 x → y ≡ get_or vs 2 y → z ≡ get_or vs 3 z → true ≡ bytes_eq w (codes "if")
    → statement_of (array (items_view vs)) ≡ choice_of (view x) (body_of (view y)) (body_of (view z))
choice_row [] w x y z few many word at_x at_y at_z is_if = absurd (omega (arith, few))
choice_row (a ∷ []) w x y z few many word at_x at_y at_z is_if = absurd (omega (arith, few))
choice_row (a ∷ (b ∷ [])) w x y z few many word at_x at_y at_z is_if = absurd (omega (arith, few))
choice_row (a ∷ (b ∷ (c ∷ []))) w x y z few many word at_x at_y at_z is_if = absurd (omega (arith, few))
choice_row (a ∷ (b ∷ (c ∷ (d ∷ [])))) w x y z few many word at_x at_y at_z is_if = rw (at_x, at_y, at_z, word, sym is_if) refl
choice_row (a ∷ (b ∷ (c ∷ (d ∷ (e ∷ vs))))) w x y z few many word at_x at_y at_z is_if = absurd (omega (arith, many))

pub loop_row : (vs : List Value) (w : List ℕ) (x y z : Value) → 4 ≤ length vs → length vs < 5 → first_word (items_view vs) ≡ Some w
    → x ≡ get_or vs 1 x → y ≡ get_or vs 2 y → z ≡ get_or vs 3 z → false ≡ bytes_eq w (codes "if") → true ≡ bytes_eq w (codes "while")
    → statement_of (array (items_view vs)) ≡ loop_of (view x) (view y) (body_of (view z))
loop_row [] w x y z few many word at_x at_y at_z no_if is_loop = absurd (omega (arith, few))
loop_row (a ∷ []) w x y z few many word at_x at_y at_z no_if is_loop = absurd (omega (arith, few))
loop_row (a ∷ (b ∷ [])) w x y z few many word at_x at_y at_z no_if is_loop = absurd (omega (arith, few))
loop_row (a ∷ (b ∷ (c ∷ []))) w x y z few many word at_x at_y at_z no_if is_loop = absurd (omega (arith, few))
loop_row (a ∷ (b ∷ (c ∷ (d ∷ [])))) w x y z few many word at_x at_y at_z no_if is_loop = rw (at_x, at_y, at_z, word, sym no_if, sym is_loop) refl
loop_row (a ∷ (b ∷ (c ∷ (d ∷ (e ∷ vs))))) w x y z few many word at_x at_y at_z no_if is_loop = absurd (omega (arith, many))

pub cell_set_row : (vs : List Value) (w : List ℕ) (x y z : Value) → 4 ≤ length vs → length vs < 5 → first_word (items_view vs) ≡ Some w
    → x ≡ get_or vs 1 x → y ≡ get_or vs 2 y → z ≡ get_or vs 3 z → false ≡ bytes_eq w (codes "if") → false ≡ bytes_eq w (codes "while") → true ≡ bytes_eq w (codes "setat")
    → statement_of (array (items_view vs)) ≡ cell_set_of (view x) (view y) (view z)
cell_set_row [] w x y z few many word at_x at_y at_z no_if no_loop is_cell = absurd (omega (arith, few))
cell_set_row (a ∷ []) w x y z few many word at_x at_y at_z no_if no_loop is_cell = absurd (omega (arith, few))
cell_set_row (a ∷ (b ∷ [])) w x y z few many word at_x at_y at_z no_if no_loop is_cell = absurd (omega (arith, few))
cell_set_row (a ∷ (b ∷ (c ∷ []))) w x y z few many word at_x at_y at_z no_if no_loop is_cell = absurd (omega (arith, few))
cell_set_row (a ∷ (b ∷ (c ∷ (d ∷ [])))) w x y z few many word at_x at_y at_z no_if no_loop is_cell = rw (at_x, at_y, at_z, word, sym no_if, sym no_loop, sym is_cell) refl
cell_set_row (a ∷ (b ∷ (c ∷ (d ∷ (e ∷ vs))))) w x y z few many word at_x at_y at_z no_if no_loop is_cell = absurd (omega (arith, many))

-- the item at this place is no statement
pub none_read : (done : List NamedStatement) (vs : List Value) (i : ℕ) (v : Value) → i < length vs → v ≡ get_or vs i v → statement_of (view v) ≡ None
    → and_then done (statements_of (items_view (drop i vs))) ≡ None
none_read done vs i v within here e =
    at_drop_more (λ xs. and_then done (statements_of (items_view xs))) vs i v within ∙ rw (ap (λ x. statement_of (view x)) (sym here) ∙ e) refl
