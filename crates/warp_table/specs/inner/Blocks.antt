-- Lists in order of tags that are kept in blocks. For proofs alone.
use Rattle.std.specs.Prelude.{◌≡◌, ℕ, suc, ◌<◌, Bool, false, IsTrue, if◌then◌else◌, List, [], ◌∷◌, ◌++◌, length, take, drop, get_or, All, AllPairs}
use Rattle.warp_tag.specs.Moment.{Moment, is_before}

-- the items of blocks, one after another
abbrev pub flat : {B X : Type 0} → (B → List X) → List B → List X
flat items [] = []
flat items (b ∷ bs) = items b ++ flat items bs

-- no block is empty but the first
abbrev pub AreBlocks : {B X : Type 0} → (B → List X) → List B → Type 0
AreBlocks items bs = All (λ b. 0 < length (items b)) (drop 1 bs)

-- none is before one that stands in front of it
abbrev pub AreOrdered : {X : Type 0} → (X → Moment) → List X → Type 0
AreOrdered tag_of xs = AllPairs (λ a b. is_before (tag_of b) (tag_of a) ≡ false) xs

-- each is before those behind it
abbrev pub AreStrict : {X : Type 0} → (X → Moment) → List X → Type 0
AreStrict tag_of xs = AllPairs (λ a b. IsTrue (is_before (tag_of a) (tag_of b))) xs

-- with one more item at its place
abbrev pub with_item : {X : Type 0} → (X → Moment) → X → List X → List X
with_item tag_of x [] = x ∷ []
with_item tag_of x (y ∷ ys) = if is_before (tag_of x) (tag_of y) then x ∷ y ∷ ys else y ∷ with_item tag_of x ys

-- the first of the items is beyond the tag
abbrev pub begins_beyond : {X : Type 0} → (X → Moment) → Moment → List X → Bool
begins_beyond tag_of tag [] = false
begins_beyond tag_of tag (x ∷ xs) = is_before tag (tag_of x)

-- the first of the tags is before one
abbrev pub begins_before : Moment → List Moment → Bool
begins_before tag [] = false
begins_before tag (t ∷ tags) = is_before t tag

-- the block of a tag: what stands before the block is not beyond the tag, and what stands behind it is
pub record IsBlockOf {B X : Type 0} (items : B → List X) (tag_of : X → Moment) (tag : Moment) (bs : List B) (at : ℕ) : Type 0 where
  pub within : at < length bs
  pub front : All (λ x. is_before tag (tag_of x) ≡ false) (flat items (take at bs))
  pub back : All (λ x. IsTrue (is_before tag (tag_of x))) (flat items (drop (suc at) bs))
  pub strict : AreStrict tag_of (flat items bs) → All (λ x. IsTrue (is_before (tag_of x) tag)) (flat items (take at bs))

-- there is room for one more in this block
abbrev pub HasRoom : {B : Type 0} → (B → ℕ) → (B → ℕ) → List B → ℕ → Type 0
HasRoom len capacity bs at = (d : _) → len (get_or bs at d) < capacity (get_or bs at d)

-- this block has more than so many items
abbrev pub IsLonger : {B : Type 0} → (B → ℕ) → List B → ℕ → ℕ → Type 0
IsLonger len bs at count = (d : _) → count < len (get_or bs at d)
