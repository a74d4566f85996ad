-- Parts that were read one after another, each of which may not be in shape: for the proofs of what is made of them.
use Rattle.std.specs.Prelude.{◌≡◌, List, map, ℕ, Option, Some, None, Result, Ok, Err, IfOk}
use Rattle.serde_json.specs.Data.{Items, no_items, item}
use Rattle.serde_json.specs.Find.{as_str}
use Rattle.warp_prog.specs.Chain.{◌>>=◌}
use Rattle.std.specs.declared.vec.Vec.{Vec}
use Rattle.warp_prog.specs.File.{NamedTerm, NamedBody}
use Rattle.warp_prog.specs.Terms.{of_one, of_two, of_three}
use Rattle.warp_prog.specs.View.{body_tree, statement_tree}
use Rattle.warp_prog.specs.declared.file.Statement.{Statement}
use Rattle.warp_prog.specs.declared.misread.Misread.{Misread}
use Rattle.warp_prog.specs.declared.misread.Misread.TheVariants.{Shape}

-- what was read is a part, seen as its tree; or there is none
pub record IsRead {X A : Type 0} (tree : X → A) (r : Result X Misread) (o : Option A) : Type 0 where
  pub ok : IfOk r (λ x. o ≡ Some (tree x))
  pub err : r ≡ Err Shape → o ≡ None

-- both values, or the first error
abbrev pub both : {A B E : Type 0} → Result A E → Result B E → Result (A × B) E
both (Err e) s = Err e
both (Ok a) (Err e) = Err e
both (Ok a) (Ok b) = Ok (a, b)

-- a list of statements
abbrev pub list_tree : {Z : Type 0} → Vec Statement Z → NamedBody
list_tree ss = body_tree (map statement_tree ss.items)

-- the text that the first item is
abbrev pub first_word : Items → Option (List ℕ)
first_word no_items = None
first_word (item d ds) = as_str d

-- two parts, if there are both
abbrev pub both_parts : {A B : Type 0} → Option A → Option B → Option (A × B)
both_parts a b = do
  x ← a
  y ← b
  Some (x, y)

-- an operator over one part, over two, and a choice, of what was read
abbrev pub with_one : List ℕ → Option NamedTerm → Option NamedTerm
with_one w a = a >>= of_one w

abbrev pub with_two : List ℕ → Option NamedTerm → Option NamedTerm → Option NamedTerm
with_two w a b = both_parts a b >>= λ p. of_two w p.0 p.1

abbrev pub with_three : List ℕ → Option NamedTerm → Option NamedTerm → Option NamedTerm → Option NamedTerm
with_three w c a b = both_parts c (both_parts a b) >>= λ p. of_three w p.0 p.1.0 p.1.1
