-- Operators over parts that were read one after another.
use Rattle.std.proofs.Common.{◌≡◌, List, ◌∷◌, [], ◌<◌, ◌≤◌, arith, length, Option, Some, None, Result, Ok, Err, ℕ, get_or, true, false, bytes_eq, codes, option_map, ap, sym, refl}
use Rattle.serde_json.specs.Data.{array}
use Rattle.serde_json.specs.View.{view, items_view}
use Rattle.serde_json.specs.declared.value.Value.{Value}
use Rattle.warp_prog.specs.Chain.{◌>>=◌}
use Rattle.warp_prog.specs.File.{NamedTerm, PresentNamed}
use Rattle.warp_prog.specs.Terms.{cell_named, of_none, of_three, term_of, two_named}
use Rattle.warp_prog.specs.Word.{name_at}
use Rattle.warp_prog.specs.inner.Read.{both, first_word, with_one, with_two, with_three}

two_same : (w : List ℕ) (a b : Option NamedTerm) → two_named w a b ≡ with_two w a b
two_same w None b = refl
two_same w (Some x) None = refl
two_same w (Some x) (Some y) = refl

three_same : (w : List ℕ) (c a b : Option NamedTerm) → (c >>= λ z. a >>= λ x. b >>= λ y. of_three w z x y) ≡ with_three w c a b
three_same w None a b = refl
three_same w (Some z) None b = refl
three_same w (Some z) (Some x) None = refl
three_same w (Some z) (Some x) (Some y) = refl

-- the rows of an expression, of what a match on one, two, three and four items knows
pub none_row : (vs : List Value) (w : List ℕ) → 1 ≤ length vs → length vs < 2 → first_word (items_view vs) ≡ Some w → term_of (array (items_view vs)) ≡ of_none w
none_row [] w few many word = absurd (omega (arith, few))
none_row (a ∷ []) w few many word = rw word refl
none_row (a ∷ (b ∷ vs)) w few many word = absurd (omega (arith, many))

pub presence_row : (vs : List Value) (w : List ℕ) (x : Value) → 2 ≤ length vs → length vs < 3 → first_word (items_view vs) ≡ Some w → x ≡ get_or vs 1 x
    → true ≡ bytes_eq w (codes "present") → term_of (array (items_view vs)) ≡ option_map PresentNamed (name_at (view x))
presence_row [] w x few many word at_x is = absurd (omega (arith, few))
presence_row (a ∷ []) w x few many word at_x is = absurd (omega (arith, few))
presence_row (a ∷ (b ∷ [])) w x few many word at_x is = rw (at_x, word, sym is) refl
presence_row (a ∷ (b ∷ (c ∷ vs))) w x few many word at_x is = absurd (omega (arith, many))

pub one_row : (vs : List Value) (w : List ℕ) (x : Value) → 2 ≤ length vs → length vs < 3 → first_word (items_view vs) ≡ Some w → x ≡ get_or vs 1 x
    → false ≡ bytes_eq w (codes "present") → term_of (array (items_view vs)) ≡ with_one w (term_of (view x))
one_row [] w x few many word at_x is = absurd (omega (arith, few))
one_row (a ∷ []) w x few many word at_x is = absurd (omega (arith, few))
one_row (a ∷ (b ∷ [])) w x few many word at_x is = rw (at_x, word, sym is) refl
one_row (a ∷ (b ∷ (c ∷ vs))) w x few many word at_x is = absurd (omega (arith, many))

pub cell_row : (vs : List Value) (w : List ℕ) (x y : Value) → 3 ≤ length vs → length vs < 4 → first_word (items_view vs) ≡ Some w
    → x ≡ get_or vs 1 x → y ≡ get_or vs 2 y → true ≡ bytes_eq w (codes "at") → term_of (array (items_view vs)) ≡ cell_named (name_at (view x)) (term_of (view y))
cell_row [] w x y few many word at_x at_y is = absurd (omega (arith, few))
cell_row (a ∷ []) w x y few many word at_x at_y is = absurd (omega (arith, few))
cell_row (a ∷ (b ∷ [])) w x y few many word at_x at_y is = absurd (omega (arith, few))
cell_row (a ∷ (b ∷ (c ∷ []))) w x y few many word at_x at_y is = rw (at_x, at_y, word, sym is) refl
cell_row (a ∷ (b ∷ (c ∷ (d ∷ vs)))) w x y few many word at_x at_y is = absurd (omega (arith, many))

pub two_row : (vs : List Value) (w : List ℕ) (x y : Value) → 3 ≤ length vs → length vs < 4 → first_word (items_view vs) ≡ Some w
    → x ≡ get_or vs 1 x → y ≡ get_or vs 2 y → false ≡ bytes_eq w (codes "at") → term_of (array (items_view vs)) ≡ with_two w (term_of (view x)) (term_of (view y))
two_row [] w x y few many word at_x at_y is = absurd (omega (arith, few))
two_row (a ∷ []) w x y few many word at_x at_y is = absurd (omega (arith, few))
two_row (a ∷ (b ∷ [])) w x y few many word at_x at_y is = absurd (omega (arith, few))
two_row (a ∷ (b ∷ (c ∷ []))) w x y few many word at_x at_y is = rw (at_x, at_y, word, sym is) (two_same w (term_of (view b)) (term_of (view c)))
two_row (a ∷ (b ∷ (c ∷ (d ∷ vs)))) w x y few many word at_x at_y is = absurd (omega (arith, many))

pub three_row : (vs : List Value) (w : List ℕ) (x y z : Value) → 4 ≤ length vs → length vs < 5 → first_word (items_view vs) ≡ Some w
    → x ≡ get_or vs 1 x → y ≡ get_or vs 2 y → z ≡ get_or vs 3 z
    → term_of (array (items_view vs)) ≡ with_three w (term_of (view x)) (term_of (view y)) (term_of (view z))
three_row [] w x y z few many word at_x at_y at_z = absurd (omega (arith, few))
three_row (a ∷ []) w x y z few many word at_x at_y at_z = absurd (omega (arith, few))
three_row (a ∷ (b ∷ [])) w x y z few many word at_x at_y at_z = absurd (omega (arith, few))
three_row (a ∷ (b ∷ (c ∷ []))) w x y z few many word at_x at_y at_z = absurd (omega (arith, few))
three_row (a ∷ (b ∷ (c ∷ (d ∷ [])))) w x y z few many word at_x at_y at_z =
    rw (at_x, at_y, at_z, word) (three_same w (term_of (view b)) (term_of (view c)) (term_of (view d)))
three_row (a ∷ (b ∷ (c ∷ (d ∷ (e ∷ vs))))) w x y z few many word at_x at_y at_z = absurd (omega (arith, many))

-- where both have a value, each has
pub both_ok : {A B E : Type 0} (r : Result A E) (s : Result B E) (p : A × B) → both r s ≡ Ok p → (r ≡ Ok p.0) × (s ≡ Ok p.1)
both_ok (Ok a) (Ok b) p h = (let same : (a, b) ≡ p = cc in (ap (λ q. Ok q.0) same, ap (λ q. Ok q.1) same))
both_ok (Ok a) (Err e) p h = absurd (cc)
both_ok (Err e) s p h = absurd (cc)
