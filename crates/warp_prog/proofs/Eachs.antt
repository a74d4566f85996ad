-- What stands in each reactor, one after another: how much it is, what holds of all of it, and in which order it stands.
use Rattle.std.proofs.Common.{◌≡◌, ℕ, ◌+◌, ◌≤◌, Bool, true, List, [], ◌∷◌, ◌++◌, length, map, drop, ap, ap₂, sym, ◌∙◌, refl, zero-add, nat_le, length-append, le-leb, leb-true, arith}
use Rattle.std.specs.List.{list_all, list_any}
use Rattle.std.proofs.lemmas.Bool.{and_from, and_parts, not-true}
use Rattle.std.proofs.lemmas.List.{length-map}
use Rattle.warp_step.specs.Program.{Program, Rule}
use Rattle.warp_step.specs.Valid.{is_rising}
use Rattle.warp_prog.specs.File.{File, ReactorPart, ReactionPart}
use Rattle.warp_prog.specs.Limits.{array_exceeds, cells_of, total}
use Rattle.warp_prog.specs.Numbered.{file_front, past, in_each, its_variables, its_cells, its_reactions, numbered, numbered_reaction}
use Rattle.warp_prog.specs.declared.scope.Before.{Before}
use Rattle.warp_prog.proofs.ArrayLemmas.{arrays_fit, length-cells}
use Rattle.warp_prog.proofs.Has.{drop-front}
use Rattle.warp_prog.proofs.Stands.{Stands, stand_past}
use Rattle.warp_prog.proofs.Ranges.{all-joined}

-- how much it is
pub length-each : {A : Type 0} (its : Before → ReactorPart → List A) (count : ReactorPart → ℕ) → ((b : Before) (r : ReactorPart) → length (its b r) ≡ count r) →
    (rs : List ReactorPart) (b : Before) → length (in_each its b rs) ≡ total count rs
length-each its count e [] b = refl
length-each its count e (r ∷ rs) b =
    length-append (its b r) (in_each its (past b r) rs) ∙ ap₂ (λ x y. x + y) (e b r) (length-each its count e rs (past b r))

-- and how many cells there are
pub cells-each : (rs : List ReactorPart) (b : Before) → list_all arrays_fit rs ≡ true → length (in_each its_cells b rs) ≡ total (λ r. cells_of r.arrays) rs
cells-each [] b h = refl
cells-each (r ∷ rs) b h =
    let parts = and_parts (arrays_fit r) (list_all arrays_fit rs) h in
    length-append (its_cells b r) (in_each its_cells (past b r) rs)
    ∙ ap₂ (λ x y. x + y) (length-cells b r.arrays (not-true (list_any array_exceeds r.arrays) parts.0)) (cells-each rs (past b r) parts.1)

-- at the beginning these are all reactors
pub stand_all : (f : File) → list_all arrays_fit f.reactors ≡ true → Stands (numbered f) (file_front f) f.reactors
stand_all f right =
    let variables = in_each its_variables (file_front f) f.reactors in
    let cells = in_each its_cells (file_front f) f.reactors in
    let size = length-each its_variables (λ r. length r.variables) (λ b r. length-map r.variables _) f.reactors (file_front f) in
    record {
      reactors = zero-add (length f.reactors);
      rest = cells;
      variables = refl;
      cells = ap (λ n. drop n (variables ++ cells)) (sym size) ∙ drop-front variables cells;
      right = right;
      ports = refl;
      actions = refl;
      timers = refl;
    }

-- what holds of what stands in each reactor that is right holds of all
pub all-each : {A : Type 0} (P : Program) (its : Before → ReactorPart → List A) (q : A → Bool) (right : ReactorPart → Bool) →
    ((b : Before) (r : ReactorPart) (rs : List ReactorPart) → Stands P b (r ∷ rs) → right r ≡ true → list_all q (its b r) ≡ true) →
    (rs : List ReactorPart) (b : Before) → Stands P b rs → list_all right rs ≡ true → list_all q (in_each its b rs) ≡ true
all-each P its q right f [] b s h = refl
all-each P its q right f (r ∷ rs) b s h =
    let parts = and_parts (right r) (list_all right rs) h in
    all-joined q (its b r) (in_each its (past b r) rs) (f b r rs s parts.0) (all-each P its q right f rs (past b r) (stand_past P b r rs s) parts.1)

-- what holds of the picture of each thing that is right holds of all pictures
pub all-map : {X Y : Type 0} (f : X → Y) (q : Y → Bool) (right : X → Bool) → ((x : X) → right x ≡ true → q (f x) ≡ true) → (xs : List X) →
    list_all right xs ≡ true → list_all q (map f xs) ≡ true
all-map f q right g [] h = refl
all-map f q right g (x ∷ xs) h =
    let parts = and_parts (right x) (list_all right xs) h in
    and_from (q (f x)) (list_all q (map f xs)) (g x parts.0) (all-map f q right g xs parts.1)

pub all-true : {X : Type 0} (xs : List X) → list_all (λ x. true) xs ≡ true
all-true [] = refl
all-true (x ∷ xs) = all-true xs

later : (k n : ℕ) → k ≤ n → (ns : List ℕ) → list_all (λ m. nat_le n m) ns ≡ true → list_all (λ m. nat_le k m) ns ≡ true
later k n e [] h = refl
later k n e (m ∷ ms) h =
    let parts = and_parts (nat_le n m) (list_all (λ m. nat_le n m) ms) h in
    and_from (nat_le k m) (list_all (λ m. nat_le k m) ms) (le-leb k m (let le : n ≤ m = leb-true n m parts.0 in omega arith)) (later k n e ms parts.1)

-- numbers of reactors, each from this one on, and each at most the next
abbrev IsRisingFrom : ℕ → List ℕ → Type 0
IsRisingFrom k ns = (list_all (λ m. nat_le k m) ns ≡ true) × (is_rising ns ≡ true)

rising-front : (b : Before) (r : ReactorPart) (rest : List Rule) (ns : List ReactionPart) → IsRisingFrom b.reactors (map (λ n. n.reactor) rest) →
    IsRisingFrom b.reactors (map (λ n. n.reactor) (map (numbered_reaction b r) ns ++ rest))
rising-front b r rest [] h = h
rising-front b r rest (n ∷ ns) h =
    let front : IsRisingFrom b.reactors (map (λ n. n.reactor) (map (numbered_reaction b r) ns ++ rest)) = rising-front b r rest ns h in
    (and_from _ _ (le-leb b.reactors b.reactors (omega arith)) front.0, and_from _ _ front.0 front.1)

-- reactions stand in the order of their reactors
pub rising-each : (rs : List ReactorPart) (b : Before) → IsRisingFrom b.reactors (map (λ n. n.reactor) (in_each its_reactions b rs))
rising-each [] b = (refl, refl)
rising-each (r ∷ rs) b =
    let rest : IsRisingFrom (b.reactors + 1) (map (λ n. n.reactor) (in_each its_reactions (past b r) rs)) = rising-each rs (past b r) in
    rising-front b r (in_each its_reactions (past b r) rs) r.reactions
    (later b.reactors (b.reactors + 1) (omega arith) (map (λ n. n.reactor) (in_each its_reactions (past b r) rs)) rest.0, rest.1)
