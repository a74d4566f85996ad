-- Cells of an array: a cell that is set leaves the number of variables.
use Rattle.std.proofs.Common.{◌≡◌, ℕ, ℤ, pos, negsuc, ◌+◌, Bool, true, false, nat_lt, List, length, set, if◌then◌else◌, refl}
use Rattle.std.proofs.lemmas.List.{length-set}
use Rattle.warp_body.specs.Cell.{with_cell}

length_if : (b : Bool) (xs ys : List ℤ) → length xs ≡ length ys → length (if b then xs else ys) ≡ length ys
length_if true xs ys h = h
length_if false xs ys h = refl

pub length_cell : (vars : List ℤ) (first count : ℕ) (index v : ℤ) → length (with_cell vars first count index v) ≡ length vars
length_cell vars first count (pos n) v = length_if (nat_lt n count) (set vars (first + n) v) vars (length-set vars (first + n) v)
length_cell vars first count (negsuc n) v = refl
