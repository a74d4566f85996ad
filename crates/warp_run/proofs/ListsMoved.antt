-- Items of a list that were moved to its front.
use Rattle.std.proofs.Common.{◌≡◌, ℕ, ◌+◌, ◌-◌, ◌≤◌, List, length, length-drop, take, drop, ap, sym, ◌∙◌, arith}
use Rattle.std.proofs.lemmas.List.{drop-take}
use Rattle.std.proofs.lemmas.List.Edits.{take-paste}
use lib.Seq.{paste}

-- what was moved to the front
pub moved_front : {X : Type 0} (xs : List X) (from to : ℕ) → from ≤ to → to ≤ length xs
    → take (to - from) (paste xs 0 (drop from xs) (to - from)) ≡ drop from (take to xs)
moved_front xs from to order within =
    let left = length-drop from xs in
    let whole : from + (to - from) ≡ to = omega arith in
    let none : 0 + (to - from) ≡ to - from = omega arith in
    ap (λ (n : ℕ). take n (paste xs 0 (drop from xs) (to - from))) (sym none)
    ∙ take-paste xs 0 (drop from xs) (to - from) (omega arith) (omega arith)
    ∙ sym (drop-take from (to - from) xs) ∙ ap (λ (n : ℕ). drop from (take n xs)) whole
