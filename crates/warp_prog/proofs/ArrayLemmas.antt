-- The cells of a reactor's arrays: how many they are, and that those that an array's name stands for are the reactor's.
use Rattle.std.proofs.Common.{◌≡◌, ℕ, ◌+◌, ◌-◌, ◌≤◌, ℤ, pos, nat_le, Bool, true, false, not, ◌&&◌, ◌||◌, ◌==◌, List, [], ◌∷◌, ◌++◌, length, map, take, drop, replicate, ap, ap₂, sym, subst₂, ◌∙◌, refl, inl, inr, append_assoc, bytes_eq, eq-eqb, le-leb, leb-true, length-append, ltb-false, unsigned_abs, arith}
use Rattle.std.specs.List.{list_any, list_all}
use Rattle.std.proofs.lemmas.Bool.{cases_Bool, true≢false, and_from, or_parts, cond-true, cond-false}
use Rattle.std.proofs.lemmas.List.{length-drop, length-map, length-replicate}
use Rattle.warp_step.specs.declared.parts.Variable.{Variable}
use Rattle.warp_prog.specs.File.{Word, ReactorPart, ArrayPart, StartPart, OfAll, OfEach}
use Rattle.warp_prog.specs.Limits.{array_exceeds, cells_of, is_outside, longest_array, starts_exceed}
use Rattle.warp_prog.specs.Numbered.{cell_count_in, cell_with, cells_in, first_cell_from, starts_with}
use Rattle.warp_prog.specs.Uses.{is_among}
use Rattle.warp_prog.specs.declared.scope.Before.{Before}
use Rattle.warp_prog.proofs.Has.{drop-past}
use Rattle.warp_prog.proofs.Ranges.{in-range}

-- the arrays of a reactor are within the limits
abbrev pub arrays_fit : ReactorPart → Bool
arrays_fit r = not (list_any array_exceeds r.arrays)

-- an array that is within the limits has a cell, and as many starts as cells
record Fits (a : ArrayPart) : Type 0 where
  pub some : 1 ≤ unsigned_abs a.count
  pub starts : length (starts_with (unsigned_abs a.count) a.start) ≡ unsigned_abs a.count

length-starts : (count : ℤ) (s : StartPart) → starts_exceed count s ≡ false → length (starts_with (unsigned_abs count) s) ≡ unsigned_abs count
length-starts count (OfAll n) h = length-replicate (unsigned_abs count) n
length-starts count (OfEach ns) h =
    let few : length ns ≤ unsigned_abs count = ltb-false (unsigned_abs count) (length ns) h in
    let all = length-append ns (replicate (unsigned_abs count - length ns) (pos 0)) in
    let rest = length-replicate (unsigned_abs count - length ns) (pos 0) in
    omega (arith, few, all, rest)

fits : (a : ArrayPart) → array_exceeds a ≡ false → Fits a
fits a h =
    let parts = or_parts (is_outside (pos 1) (pos longest_array) a.count) (starts_exceed a.count a.start) h in
    record {
      some = leb-true 1 (unsigned_abs a.count) (in-range 1 longest_array a.count parts.0).0;
      starts = length-starts a.count a.start parts.1;
    }

-- how many cells arrays have together
pub length-cells : (b : Before) (xs : List ArrayPart) → list_any array_exceeds xs ≡ false → length (cells_in b xs) ≡ cells_of xs
length-cells b [] h = refl
length-cells b (a ∷ rest) h =
    let parts = or_parts (array_exceeds a) (list_any array_exceeds rest) h in
    let starts = starts_with (unsigned_abs a.count) a.start in
    length-append (map (cell_with b) starts) (cells_in b rest)
    ∙ ap₂ (λ x y. x + y) (length-map starts (cell_with b) ∙ (fits a parts.0).starts) (length-cells b rest parts.1)

-- the front of a list
take-front : {X : Type 0} (xs ys : List X) → take (length xs) (xs ++ ys) ≡ xs
take-front [] ys = refl
take-front (x ∷ xs) ys = ap (λ rest. x ∷ rest) (take-front xs ys)

-- a cell is of its reactor
abbrev is_of : Before → Variable → Bool
is_of b v = v.reactor == b.reactors

all-of : (b : Before) (starts : List ℤ) → list_all (is_of b) (map (cell_with b) starts) ≡ true
all-of b [] = refl
all-of b (n ∷ ns) = and_from (b.reactors == b.reactors) (list_all (is_of b) (map (cell_with b) ns)) (eq-eqb b.reactors b.reactors refl) (all-of b ns)

-- so many variables from one on are there, and all are the reactor's
abbrev are_owned : List Variable → Before → ℕ → ℕ → Bool
are_owned all b first count = nat_le (first + count) (length all) && list_all (is_of b) (take count (drop first all))

front-owned : (all cells rest : List Variable) (b : Before) (k count : ℕ) → drop k all ≡ cells ++ rest → length cells ≡ count → 1 ≤ count
    → list_all (is_of b) cells ≡ true → are_owned all b k count ≡ true
front-owned all cells rest b k count stands size some own =
    let left = length-drop k all in
    let long = ap length stands ∙ length-append cells rest in
    let within : k + count ≤ length all = omega (arith, left, long, size, some) in
    let front : take count (drop k all) ≡ cells = ap (take count) stands ∙ ap (λ n. take n (cells ++ rest)) (sym size) ∙ take-front cells rest in
    and_from (nat_le (k + count) (length all)) (list_all (is_of b) (take count (drop k all))) (le-leb (k + count) (length all) within) (ap (list_all (is_of b)) front ∙ own)

-- where arrays stand in a program, what the name of one stands for is theirs
pub owned : (all : List Variable) (b : Before) (xs : List ArrayPart) (rest : List Variable) (k : ℕ) (name : Word) → list_any array_exceeds xs ≡ false
    → drop k all ≡ cells_in b xs ++ rest → is_among (map (λ (a : ArrayPart). a.name) xs) name ≡ true
    → are_owned all b (first_cell_from k xs name) (cell_count_in xs name) ≡ true
owned all b [] rest k name h stands there = absurd (true≢false (sym there))
owned all b (a ∷ xs) rest k name h stands there =
    let parts = or_parts (array_exceeds a) (list_any array_exceeds xs) h in
    let fit = fits a parts.0 in
    let count = unsigned_abs a.count in
    let starts = starts_with count a.start in
    let cells = map (cell_with b) starts in
    let size : length cells ≡ count = length-map starts (cell_with b) ∙ fit.starts in
    let behind : drop k all ≡ cells ++ (cells_in b xs ++ rest) = stands ∙ append_assoc cells (cells_in b xs) rest in
    let names = map (λ (a : ArrayPart). a.name) xs in
    elim (cases_Bool (bytes_eq name a.name)) [
      | inl here ↦
          subst₂ (λ f c. are_owned all b f c ≡ true)
          (sym (cond-true (bytes_eq name a.name) k (first_cell_from (k + count) xs name) here))
          (sym (cond-true (bytes_eq name a.name) count (cell_count_in xs name) here))
          (front-owned all cells (cells_in b xs ++ rest) b k count behind size fit.some (all-of b starts))
      | inr past ↦
          subst₂ (λ f c. are_owned all b f c ≡ true)
          (sym (cond-false (bytes_eq name a.name) k (first_cell_from (k + count) xs name) past))
          (sym (cond-false (bytes_eq name a.name) count (cell_count_in xs name) past))
          (owned all b xs rest (k + count) name parts.1 (drop-past all cells (cells_in b xs ++ rest) k count behind size)
          (sym (ap (λ o. o || is_among names name) past) ∙ there))
    ]
