-- Bytes up to a line feed.
use Rattle.std.proofs.Common.{◌≡◌, ◌<◌, ◌+◌, ℕ, zero, suc, List, [], ◌∷◌, ◌++◌, length, take, drop, sym, ap, ◌∙◌, subst, arith}
use Rattle.std.specs.Prelude.{slice_index}

cut_behind : (xs : List ℕ) (n : ℕ) → n < length xs → slice_index xs n ≡ 10 → xs ≡ take n xs ++ 10 ∷ drop (suc n) xs
cut_behind [] n less is = absurd (omega (arith, less))
cut_behind (x ∷ xs) zero less is = ap (λ (h : ℕ). h ∷ xs) is
cut_behind (x ∷ xs) (suc n) less is = ap (λ (l : List ℕ). x ∷ l) (cut_behind xs n (omega (arith, less)) is)

one_more : (n : ℕ) → suc n ≡ n + 1
one_more n = grind (arith)

-- the first bytes of these up to a line feed, and what is left behind it
pub carry_cut : (items a b rest : List ℕ) (n : ℕ) → a ≡ items → b ≡ items → n < length a → slice_index a n ≡ 10 → rest ≡ drop (n + 1) items
    → items ≡ take n b ++ 10 ∷ rest
carry_cut items a b rest n one two less is left =
    cut_behind items n (subst (λ (l : List ℕ). n < length l) one less) (subst (λ (l : List ℕ). slice_index l n ≡ 10) one is)
    ∙ ap (λ (k : ℕ). take n items ++ 10 ∷ drop k items) (one_more n) ∙ ap (λ (l : List ℕ). take n items ++ 10 ∷ l) (sym left)
    ∙ ap (λ (l : List ℕ). take n l ++ 10 ∷ rest) (sym two)
