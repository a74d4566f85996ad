-- Lines of labels: one more, and no more.
use Rattle.std.proofs.Common.{◌≡◌, ℕ, ◌+◌, ◌<◌, ◌≤◌, List, [], ◌∷◌, ◌++◌, ap, codes, drop, get_or, length, map, sym, ◌∙◌}
use Rattle.std.proofs.lemmas.List.{append_assoc, append-nil, at_drop_more, drop_all}
use Rattle.warp_step.specs.declared.parts.ProgramInput.{ProgramInput}
use Rattle.warp_prog.specs.Explain.{counted, input_lines, number_lines, origin_at}
use Rattle.warp_prog.specs.File.{Word}
use Rattle.warp_prog.proofs.CanonicalLemmas.{joined, joined5}

-- one label more
pub lines_more : {X : Type 0} (shown : X → Word) (word text new : List ℕ) (labels : List X) (i : ℕ) (l : X)
    → i < length labels → l ≡ get_or labels i l → new ≡ text ++ (counted word i ++ 32 ∷ shown l ++ 10 ∷ [])
    → new ++ number_lines word (i + 1) (map shown (drop (i + 1) labels)) ≡ text ++ number_lines word i (map shown (drop i labels))
lines_more shown word text new labels i l within here e =
    let rest = number_lines word (i + 1) (map shown (drop (i + 1) labels)) in
    ap (λ xs. xs ++ rest) e ∙ append_assoc text (counted word i ++ 32 ∷ shown l ++ 10 ∷ []) rest
    ∙ ap (λ s. text ++ ((counted word i ++ 32 ∷ shown s ++ 10 ∷ []) ++ rest)) here
    ∙ sym (at_drop_more (λ ss. text ++ number_lines word i (map shown ss)) labels i l within)

-- no label more
pub lines_all : {X : Type 0} (shown : X → Word) (word text : List ℕ) (labels : List X) (i : ℕ) → length labels ≤ i
    → text ++ number_lines word i (map shown (drop i labels)) ≡ text
lines_all shown word text labels i past =
    ap (λ ss. text ++ number_lines word i (map shown ss)) (drop_all i labels past) ∙ append-nil text

-- one program input more
pub inputs_more : {X : Type 0} (shown : X → Word) (text new : List ℕ) (labels : List X) (inputs : List ProgramInput) (i : ℕ) (l : X) (origin : ℕ)
    → i < length labels → l ≡ get_or labels i l → origin ≡ origin_at inputs i
    → new ≡ text ++ (counted (codes "input") i ++ 32 ∷ shown l ++ counted (codes " origin") origin ++ 10 ∷ [])
    → new ++ input_lines inputs (i + 1) (map shown (drop (i + 1) labels)) ≡ text ++ input_lines inputs i (map shown (drop i labels))
inputs_more {X = X} shown text new labels inputs i l origin within here there e =
    let line : X → ℕ → List ℕ = λ s n. counted (codes "input") i ++ 32 ∷ shown s ++ counted (codes " origin") n ++ 10 ∷ [] in
    let rest = input_lines inputs (i + 1) (map shown (drop (i + 1) labels)) in
    ap (λ xs. xs ++ rest) e ∙ append_assoc text (line l origin) rest
    ∙ ap (λ n. text ++ (line l n ++ rest)) there ∙ ap (λ s. text ++ (line s (origin_at inputs i) ++ rest)) here
    ∙ sym (at_drop_more (λ ss. text ++ input_lines inputs i (map shown ss)) labels i l within)

-- no program input more
pub inputs_all : {X : Type 0} (shown : X → Word) (text : List ℕ) (labels : List X) (inputs : List ProgramInput) (i : ℕ) → length labels ≤ i
    → text ++ input_lines inputs i (map shown (drop i labels)) ≡ text
inputs_all shown text labels inputs i past =
    ap (λ ss. text ++ input_lines inputs i (map shown ss)) (drop_all i labels past) ∙ append-nil text

-- seven parts, one behind another
pub seven : (t a b c d e f g : List ℕ) {t1 t2 t3 t4 t5 t6 t7 : List ℕ} → t1 ≡ t ++ a → t2 ≡ t1 ++ b → t3 ≡ t2 ++ c → t4 ≡ t3 ++ d
    → t5 ≡ t4 ++ e → t6 ≡ t5 ++ f → t7 ≡ t6 ++ g → t7 ≡ t ++ ((((((a ++ b) ++ c) ++ d) ++ e) ++ f) ++ g)
seven t a b c d e f g p q r s u v w =
    joined t (((((a ++ b) ++ c) ++ d) ++ e) ++ f) g (joined t ((((a ++ b) ++ c) ++ d) ++ e) f (joined5 t a b c d e p q r s u) v) w
