-- Some element of two lists, one after the other; and the loops that look for an element which passes a test.
use Rattle.std.proofs.Common.{◌≡◌, ℕ, ◌+◌, ◌<◌, ◌≤◌, Bool, true, false, ◌||◌, List, ◌∷◌, length, get_or, drop, map, ◌++◌, ap, sym, ◌∙◌, refl}
use Rattle.std.specs.List.{list_any}
use Rattle.std.proofs.lemmas.List.{at_drop_more, at_drop_all}
use Rattle.std.proofs.lemmas.List.Folds.{list_any-append}

-- where the first of two tests fails, the second decides
pub second_decides : (a b x r : Bool) → x ≡ a → x ≡ false → r ≡ b → r ≡ (a || b)
second_decides true b x r e f g = cc
second_decides false b x r e f g = g

pub ruleset anys = (list_any-append)

-- `F` says whether some element of a list passes `p`: one that does not pass is passed over
pub passed_over : {X : Type 0} (F : List X → Bool) (p : X → Bool) → ((x : X) (xs : List X) → F (x ∷ xs) ≡ (p x || F xs)) → (xs : List X) (i : ℕ) (x : X)
    → i < length xs → x ≡ get_or xs i x → p x ≡ false → F (drop (i + 1) xs) ≡ F (drop i xs)
passed_over F p step xs i x within here fails =
    sym (at_drop_more F xs i x within
    ∙ ap (λ y. F (y ∷ drop (i + 1) xs)) (sym here)
    ∙ step x (drop (i + 1) xs)
    ∙ ap (λ b. b || F (drop (i + 1) xs)) fails)

-- some element that is left passes, whether or not this one is passed over
pub any_more : {X : Type 0} (p : X → Bool) (xs : List X) (i : ℕ) (x : X) → i < length xs → x ≡ get_or xs i x → p x ≡ false
    → list_any p (drop (i + 1) xs) ≡ list_any p (drop i xs)
any_more p xs i x within here fails = passed_over (list_any p) p (λ _ _. refl) xs i x within here fails

pub any_seen_more : {X Y : Type 0} (p : Y → Bool) (seen : X → Y) (xs : List X) (i : ℕ) (x : X) → i < length xs → x ≡ get_or xs i x → p (seen x) ≡ false
    → list_any p (map seen (drop (i + 1) xs)) ≡ list_any p (map seen (drop i xs))
any_seen_more p seen xs i x within here fails = passed_over (λ ys. list_any p (map seen ys)) (λ y. p (seen y)) (λ _ _. refl) xs i x within here fails

-- at the end nothing is left
pub any_none : {X : Type 0} (p : X → Bool) (xs : List X) (i : ℕ) → length xs ≤ i → list_any p (drop i xs) ≡ false
any_none p xs i end = at_drop_all (list_any p) xs i end

pub any_seen_none : {X Y : Type 0} (p : Y → Bool) (seen : X → Y) (xs : List X) (i : ℕ) → length xs ≤ i → list_any p (map seen (drop i xs)) ≡ false
any_seen_none p seen xs i end = at_drop_all (λ ys. list_any p (map seen ys)) xs i end

-- the same of an element's parts, where those of a list are those of its elements, one after the other
pub any_part_more : {X Y : Type 0} (p : Y → Bool) (parts : X → List Y) (all : List X → List Y) → ((x : X) (xs : List X) → all (x ∷ xs) ≡ parts x ++ all xs)
    → (xs : List X) (i : ℕ) (x : X) → i < length xs → x ≡ get_or xs i x → list_any p (parts x) ≡ false
    → list_any p (all (drop (i + 1) xs)) ≡ list_any p (all (drop i xs))
any_part_more p parts all step xs i x within here fails =
    passed_over (λ ys. list_any p (all ys)) (λ y. list_any p (parts y))
    (λ y ys. ap (list_any p) (step y ys) ∙ list_any-append p (parts y) (all ys)) xs i x within here fails
