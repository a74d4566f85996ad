-- How deep an expression is at least.
use Rattle.std.proofs.Common.{◌≡◌, ℕ, ◌<◌, ◌≤◌, true, ◌||◌, max, ltb, arith}
use Rattle.std.proofs.lemmas.Bool.Decides.{nat_tests}
use Rattle.warp_prog.specs.File.{NamedTerm, Literal, Named, PresentNamed, OneNamed, TwoNamed, ChoiceNamed, ProductNamed, CellNamed, TimeNamed, MicrostepNamed}
use Rattle.warp_prog.specs.Limits.{term_depth}

-- an expression has a level
has_level : (t : NamedTerm) → 0 < term_depth t
has_level (Literal n) = omega arith
has_level (Named name) = omega arith
has_level (PresentNamed name) = omega arith
has_level (OneNamed op a) = omega arith
has_level (TwoNamed op a b) = omega arith
has_level (ChoiceNamed c a b) = omega arith
has_level (ProductNamed a b c) = omega arith
has_level (CellNamed name index) = omega arith
has_level TimeNamed = omega arith
has_level MicrostepNamed = omega arith

above_none : (levels n : ℕ) → 0 < n → ¬ (1 ≤ levels) → true ≡ ltb levels n
above_none levels n some none = grind (arith, nat_tests)

-- an expression is deeper than no level
pub deeper_than_none : (levels : ℕ) (t : NamedTerm) → ¬ (1 ≤ levels) → true ≡ ltb levels (term_depth t)
deeper_than_none levels t none = above_none levels (term_depth t) (has_level t) none

-- the greater of two numbers is past so many exactly if one of them is
pub past_greater : (n a b : ℕ) → ltb n (max a b) ≡ (ltb n a || ltb n b)
past_greater n a b = grind (arith, nat_tests)
