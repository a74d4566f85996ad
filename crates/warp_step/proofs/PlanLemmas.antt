-- Tables that are filled one number after another: what is there so far, and what is left.
use Rattle.std.proofs.Common.{◌≡◌, ℕ, ◌+◌, ◌<◌, ◌≤◌, List, [], ◌∷◌, ◌++◌, length, map, take, drop, get_or, refl, sym, ap, ◌∙◌, arith}
use Rattle.std.proofs.lemmas.List.{append_assoc, append-nil, drop_all, drop_more, map_more, map_push, take_all}
use Rattle.warp_step.specs.Step.{numbers}

-- what a function gives at the numbers from one on is what it gives at that one, and at those from the next one on
pub numbers_one_more : {X Y : Type 0} (front : List Y) (f : ℕ → Y) (n : ℕ) (xs : List X) → n < length xs
    → (front ++ f n ∷ []) ++ map f (numbers (n + 1) (drop (n + 1) xs)) ≡ front ++ map f (numbers n (drop n xs))
numbers_one_more {X} {Y} front f n [] lt = absurd (omega arith)
numbers_one_more {X} {Y} front f n (x ∷ xs) lt =
    append_assoc front (f n ∷ []) (map f (numbers (n + 1) (drop (n + 1) (x ∷ xs))))
    ∙ ap (λ (rest : List X). front ++ map f (numbers n rest)) (sym (drop_more (x ∷ xs) n x lt))

-- at the end nothing is left
pub numbers_no_more : {X Y : Type 0} (front : List Y) (f : ℕ → Y) (n : ℕ) (xs : List X) → length xs ≤ n → front ++ map f (numbers n (drop n xs)) ≡ front
numbers_no_more {X} {Y} front f n xs end = ap (λ (rest : List X). front ++ map f (numbers n rest)) (drop_all n xs end) ∙ append-nil front

-- a list that is made of another one element at a time, seen through what is told of each: one more, and at the end all
pub made_more : {X Y Z : Type 0} (f : X → Y) (g : Z → Y) (made new : List Z) (z : Z) (xs : List X) (i : ℕ) (d : X) → i < length xs
    → map g made ≡ map f (take i xs) → new ≡ made ++ z ∷ [] → g z ≡ f (get_or xs i d) → map g new ≡ map f (take (i + 1) xs)
made_more {X} {Y} {Z} f g made new z xs i d lt so_far pushed told =
    ap (map g) pushed ∙ map_push g made z ∙ (λ j. so_far j ++ told j ∷ []) ∙ sym (map_more f xs i d lt)

pub made_all : {X Y : Type 0} (f : X → Y) (made : List Y) (xs : List X) (i : ℕ) → length xs ≤ i → made ≡ map f (take i xs) → made ≡ map f xs
made_all f made xs i end so_far = so_far ∙ ap (map f) (take_all i xs end)

-- what is told of each is told of what each is told as
pub told_twice : {X Y Z : Type 0} (f : Y → Z) (g : X → Y) (xs : List X) → map (λ x. f (g x)) xs ≡ map f (map g xs)
told_twice f g [] = refl
told_twice f g (x ∷ xs) = ap (λ (zs : List _). f (g x) ∷ zs) (told_twice f g xs)
