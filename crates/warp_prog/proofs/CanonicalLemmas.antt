-- Lists of a canonical text: one item more, and no more; and lists of what is seen as something else.
use Rattle.std.proofs.Common.{◌≡◌, ℕ, ◌+◌, ◌<◌, ◌≤◌, List, [], ◌∷◌, ◌++◌, ap, drop, get_or, length, map, sym, ◌∙◌}
use Rattle.std.proofs.lemmas.List.{append_assoc, append-nil, at_drop_more, drop_all}
use Rattle.std.proofs.lemmas.Simd.{map-map}
use Rattle.warp_prog.specs.Canonical.{array_text, comma, listed, part_unless_empty, quoted, reaction_text, reactor_text}
use Rattle.warp_prog.specs.View.{array_tree, reaction_tree, reactor_tree}
use Rattle.warp_prog.specs.declared.file.Array.{Array}
use Rattle.warp_prog.specs.declared.file.Reaction.{Reaction}
use Rattle.warp_prog.specs.declared.file.Reactor.{Reactor}

-- the texts of reactors are those of their trees
pub reactor_texts : (rs : List Reactor) → map (λ r. reactor_text (reactor_tree r)) rs ≡ map reactor_text (map reactor_tree rs)
reactor_texts rs = sym (map-map reactor_text reactor_tree rs)

-- the texts of reactions are those of their trees
pub reaction_texts : (rs : List Reaction) → map (λ r. reaction_text (reaction_tree r)) rs ≡ map reaction_text (map reaction_tree rs)
reaction_texts rs = sym (map-map reaction_text reaction_tree rs)

-- the texts of arrays are those of their trees
pub array_texts : (xs : List Array) → map (λ a. array_text (array_tree a)) xs ≡ map array_text (map array_tree xs)
array_texts xs = sym (map-map array_text array_tree xs)

-- the texts of labels are those of their bytes
pub label_texts : {S : Type 0} (bytes : S → List ℕ) (ls : List S) → map (λ s. quoted (bytes s)) ls ≡ map quoted (map bytes ls)
label_texts bytes ls = sym (map-map quoted bytes ls)

-- one item more of texts with commas between them
pub parts_more : {X : Type 0} (F : ℕ → List X → List ℕ) (shown : ℕ → X → List ℕ)
    → ((n : ℕ) (x : X) (xs : List X) → F n (x ∷ xs) ≡ ((comma n ++ shown n x) ++ F (n + 1) xs))
    → (text mid new : List ℕ) (xs : List X) (i : ℕ) (x : X) → i < length xs → x ≡ get_or xs i x → mid ≡ text ++ comma i → new ≡ mid ++ shown i x
    → new ++ F (i + 1) (drop (i + 1) xs) ≡ text ++ F i (drop i xs)
parts_more F shown step text mid new xs i x within here c e =
    let rest = F (i + 1) (drop (i + 1) xs) in
    ap (λ ys. ys ++ rest) (e ∙ ap (λ ys. ys ++ shown i x) c ∙ append_assoc text (comma i) (shown i x))
    ∙ append_assoc text (comma i ++ shown i x) rest
    ∙ ap (λ y. text ++ ((comma i ++ shown i y) ++ rest)) here
    ∙ ap (λ ys. text ++ ys) (sym (step i (get_or xs i x) (drop (i + 1) xs)))
    ∙ sym (at_drop_more (λ ys. text ++ F i ys) xs i x within)

-- no item more
pub parts_all : {X : Type 0} (F : ℕ → List X → List ℕ) → ((n : ℕ) → F n [] ≡ []) → (text : List ℕ) (xs : List X) (i : ℕ) → length xs ≤ i
    → text ++ F i (drop i xs) ≡ text
parts_all F end text xs i past =
    ap (λ ys. text ++ F i ys) (drop_all i xs past) ∙ ap (λ ys. text ++ ys) (end i) ∙ append-nil text

-- one text behind another, up to six of them
pub joined : (t a b : List ℕ) {t1 t2 : List ℕ} → t1 ≡ t ++ a → t2 ≡ t1 ++ b → t2 ≡ t ++ (a ++ b)
joined t a b p q = q ∙ ap (λ x. x ++ b) p ∙ append_assoc t a b

pub joined3 : (t a b c : List ℕ) {t1 t2 t3 : List ℕ} → t1 ≡ t ++ a → t2 ≡ t1 ++ b → t3 ≡ t2 ++ c → t3 ≡ t ++ ((a ++ b) ++ c)
joined3 t a b c p q r = joined t (a ++ b) c (joined t a b p q) r

pub joined4 : (t a b c d : List ℕ) {t1 t2 t3 t4 : List ℕ} → t1 ≡ t ++ a → t2 ≡ t1 ++ b → t3 ≡ t2 ++ c → t4 ≡ t3 ++ d
    → t4 ≡ t ++ (((a ++ b) ++ c) ++ d)
joined4 t a b c d p q r u = joined t ((a ++ b) ++ c) d (joined3 t a b c p q r) u

pub joined5 : (t a b c d e : List ℕ) {t1 t2 t3 t4 t5 : List ℕ} → t1 ≡ t ++ a → t2 ≡ t1 ++ b → t3 ≡ t2 ++ c → t4 ≡ t3 ++ d → t5 ≡ t4 ++ e
    → t5 ≡ t ++ ((((a ++ b) ++ c) ++ d) ++ e)
joined5 t a b c d e p q r u v = joined t (((a ++ b) ++ c) ++ d) e (joined4 t a b c d p q r u) v

-- a list of other texts, which are the same
pub relisted : (t key : List ℕ) {new : List ℕ} {ts us : List (List ℕ)} → ts ≡ us → new ≡ t ++ (key ++ listed ts) → new ≡ t ++ (key ++ listed us)
relisted t key e p = p ∙ ap (λ ts. t ++ (key ++ listed ts)) e

-- the same of a key that is there where there are texts
pub reparted : (t key : List ℕ) {new : List ℕ} {ts us : List (List ℕ)} → ts ≡ us → new ≡ t ++ part_unless_empty key ts → new ≡ t ++ part_unless_empty key us
reparted t key e p = p ∙ ap (λ ts. t ++ part_unless_empty key ts) e
