-- Items of a list: each read, and how many make a pair, a triple and an expression.
use Rattle.std.proofs.Common.{◌≡◌, List, ◌∷◌, [], ◌++◌, ◌<◌, ◌≤◌, ◌+◌, ℕ, arith, length, map, drop, get_or, ◌||◌, false, Bor, bytes_eq, Option, Some, None, option_map, ap, sym, ◌∙◌, refl}
use Rattle.std.proofs.lemmas.List.{append-nil, append_assoc, at_drop_more, drop_all, map-append}
use Rattle.serde_json.specs.View.{view, items_view}
use Rattle.serde_json.specs.declared.value.Value.{Value}
use Rattle.serde_json.specs.Data.{Data, array}
use Rattle.warp_prog.specs.Chain.{◌>>=◌}
use Rattle.warp_prog.specs.Terms.{term_of}
use Rattle.warp_prog.specs.Json.{each, is_one_of, two_items, three_items, four_items}

-- what was read so far, and then the rest
abbrev pub after : {A : Type 0} → List A → Option (List A) → Option (List A)
after done rest = option_map (λ xs. done ++ xs) rest

pub not_two : (vs : List Value) → ¬ (length vs ≡ 2) → None ≡ two_items (items_view vs)
not_two [] h = refl
not_two (a ∷ []) h = refl
not_two (a ∷ (b ∷ [])) h = absurd (h refl)
not_two (a ∷ (b ∷ (c ∷ vs))) h = refl

pub not_three : (vs : List Value) → ¬ (length vs ≡ 3) → None ≡ three_items (items_view vs)
not_three [] h = refl
not_three (a ∷ []) h = refl
not_three (a ∷ (b ∷ [])) h = refl
not_three (a ∷ (b ∷ (c ∷ []))) h = absurd (h refl)
not_three (a ∷ (b ∷ (c ∷ (d ∷ vs)))) h = refl

pub not_four : (vs : List Value) → ¬ (length vs ≡ 4) → None ≡ four_items (items_view vs)
not_four [] h = refl
not_four (a ∷ []) h = refl
not_four (a ∷ (b ∷ [])) h = refl
not_four (a ∷ (b ∷ (c ∷ []))) h = refl
not_four (a ∷ (b ∷ (c ∷ (d ∷ [])))) h = absurd (h refl)
not_four (a ∷ (b ∷ (c ∷ (d ∷ (e ∷ vs))))) h = refl

pub too_few : (vs : List Value) → length vs < 1 → term_of (array (items_view vs)) ≡ None
too_few [] h = refl
too_few (a ∷ vs) h = absurd (omega (arith, h))

pub too_many : (vs : List Value) → 5 ≤ length vs → term_of (array (items_view vs)) ≡ None
too_many [] h = refl
too_many (a ∷ []) h = absurd (omega (arith, h))
too_many (a ∷ (b ∷ [])) h = absurd (omega (arith, h))
too_many (a ∷ (b ∷ (c ∷ []))) h = absurd (omega (arith, h))
too_many (a ∷ (b ∷ (c ∷ (d ∷ [])))) h = absurd (omega (arith, h))
too_many (a ∷ (b ∷ (c ∷ (d ∷ (e ∷ vs))))) h = refl

-- reading the items from this place on begins with the item there
from_here : {A : Type 0} (f : Data → Option A) (vs : List Value) (i : ℕ) (v : Value) (o : Option A) → i < length vs → v ≡ get_or vs i v → f (view v) ≡ o
    → each f (items_view (drop i vs)) ≡ (o >>= λ x. each f (items_view (drop (i + 1) vs)) >>= λ xs. Some (x ∷ xs))
from_here f vs i v o within here e =
    at_drop_more (λ ys. each f (items_view ys)) vs i v within
    ∙ ap (λ p. p >>= λ x. each f (items_view (drop (i + 1) vs)) >>= λ xs. Some (x ∷ xs)) (ap (λ y. f (view y)) (sym here) ∙ e)

after_more : {A : Type 0} (done : List A) (x : A) (o : Option (List A)) → after (done ++ x ∷ []) o ≡ after done (o >>= λ xs. Some (x ∷ xs))
after_more done x None = refl
after_more done x (Some xs) = ap Some (append_assoc done (x ∷ []) xs)

-- one item more was read; the item here is not in shape; all were read
pub each_more : {A : Type 0} (f : Data → Option A) (done : List A) (x : A) (vs : List Value) (i : ℕ) (v : Value) → i < length vs → v ≡ get_or vs i v
    → f (view v) ≡ Some x → after (done ++ x ∷ []) (each f (items_view (drop (i + 1) vs))) ≡ after done (each f (items_view (drop i vs)))
each_more f done x vs i v within here e =
    after_more done x (each f (items_view (drop (i + 1) vs))) ∙ ap (after done) (sym (from_here f vs i v (Some x) within here e))

pub each_none : {A : Type 0} (f : Data → Option A) (done : List A) (vs : List Value) (i : ℕ) (v : Value) → i < length vs → v ≡ get_or vs i v
    → f (view v) ≡ None → after done (each f (items_view (drop i vs))) ≡ None
each_none f done vs i v within here e = ap (after done) (from_here f vs i v None within here e)

pub each_all : {A : Type 0} (f : Data → Option A) (done : List A) (vs : List Value) (i : ℕ) → length vs ≤ i
    → after done (each f (items_view (drop i vs))) ≡ Some done
each_all f done vs i past = ap (λ ys. after done (each f (items_view ys))) (drop_all i vs past) ∙ ap Some (append-nil done)

-- the same, of what was read and is seen as its tree
pub tree_more : {X A : Type 0} (f : Data → Option A) (tree : X → A) (done : List X) (x : X) (vs : List Value) (i : ℕ) (v : Value) → i < length vs → v ≡ get_or vs i v
    → f (view v) ≡ Some (tree x)
    → after (map tree (done ++ x ∷ [])) (each f (items_view (drop (i + 1) vs))) ≡ after (map tree done) (each f (items_view (drop i vs)))
tree_more f tree done x vs i v within here e =
    ap (λ xs. after xs (each f (items_view (drop (i + 1) vs)))) (map-append tree done (x ∷ [])) ∙ each_more f (map tree done) (tree x) vs i v within here e

-- no key so far; no key at all
pub key_more : (ks : List (Bor (List ℕ))) (key : List ℕ) (i : ℕ) (k : Bor (List ℕ)) → i < length ks → bytes_eq (get_or ks i k).now key ≡ false
    → is_one_of (map (λ k. k.now) (drop (i + 1) ks)) key ≡ is_one_of (map (λ k. k.now) (drop i ks)) key
key_more ks key i k within other =
    sym (at_drop_more (λ ys. is_one_of (map (λ k. k.now) ys) key) ks i k within ∙ ap (λ b. b || is_one_of (map (λ k. k.now) (drop (i + 1) ks)) key) other)

pub key_none : (ks : List (Bor (List ℕ))) (key : List ℕ) (i : ℕ) → length ks ≤ i → is_one_of (map (λ k. k.now) (drop i ks)) key ≡ false
key_none ks key i past = ap (λ ys. is_one_of (map (λ k. k.now) ys) key) (drop_all i ks past)
