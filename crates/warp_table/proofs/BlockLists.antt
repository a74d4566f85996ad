-- Lists in order that are kept in blocks: what stands before and behind a block, one item more, a block parted.
use Rattle.std.proofs.Common.{◌≡◌, ◌⊎◌, ℕ, zero, suc, ◌+◌, ◌-◌, ◌<◌, ◌≤◌, Bool, true, false, not, if◌then◌else◌, IsTrue, List, [], ◌∷◌, ◌++◌, drop, filter, take, length, get_or, set, inl, inr, refl, sym, ap, subst, ◌∙◌, arith}
use Rattle.std.specs.List.{All, AllPairs, insert, position_or_len}
use Rattle.std.specs.List.Sorted.{IsPartitionedBy}
use Rattle.std.proofs.lemmas.Bool.{cases_Bool, cases_eq, false≢true}
use Rattle.std.proofs.lemmas.Bool.Decides.{nat_tests}
use Rattle.std.proofs.lemmas.List.{append-nil, get_or-append-add, get_or_default, length-append}
use Rattle.std.proofs.lemmas.List.Elements.{All-append, All-cons, All-head, All-nil, All-set, All-tail, All-weaker}
use Rattle.std.proofs.lemmas.List.Kept.{AllPairs-cons}
use Rattle.warp_tag.specs.Moment.{Moment, is_before}
use Rattle.warp_tag.proofs.Tags.{not_before_trans}
use Rattle.warp_table.specs.inner.Blocks.{AreBlocks, AreOrdered, AreStrict, IsBlockOf, begins_beyond, flat, with_item}
use Rattle.warp_table.specs.inner.Heard.{with_tag}
use Rattle.warp_table.proofs.InOrder.{before_not_behind, not_beyond}
use Rattle.warp_table.proofs.Members.{All-insert, AllPairs-first, AllPairs-one, AllPairs-tail}

-- Two parts of a list

pub All-left : {X : Type 0} (P : X → Type 0) (xs ys : List X) → All P (xs ++ ys) → All P xs
All-left P [] ys h = All-nil P
All-left P (x ∷ xs) ys h = All-cons P x xs (All-head P x (xs ++ ys) h) (All-left P xs ys (All-tail P x (xs ++ ys) h))

pub All-right : {X : Type 0} (P : X → Type 0) (xs ys : List X) → All P (xs ++ ys) → All P ys
All-right P [] ys h = h
All-right P (x ∷ xs) ys h = All-right P xs ys (All-tail P x (xs ++ ys) h)

pub pairs_left : {X : Type 0} (R : X → X → Type 0) (xs ys : List X) → AllPairs R (xs ++ ys) → AllPairs R xs
pairs_left R [] ys h = λ i j d lt l. absurd (omega (arith, l))
pairs_left R (x ∷ xs) ys h = AllPairs-cons R x xs (All-left (R x) xs ys (AllPairs-first R x (xs ++ ys) h)) (pairs_left R xs ys (AllPairs-tail R x (xs ++ ys) h))

pub pairs_right : {X : Type 0} (R : X → X → Type 0) (xs ys : List X) → AllPairs R (xs ++ ys) → AllPairs R ys
pairs_right R [] ys h = h
pairs_right R (x ∷ xs) ys h = pairs_right R xs ys (AllPairs-tail R x (xs ++ ys) h)

pub append_assoc : {X : Type 0} (xs ys zs : List X) → (xs ++ ys) ++ zs ≡ xs ++ (ys ++ zs)
append_assoc [] ys zs = refl
append_assoc (x ∷ xs) ys zs = ap (λ l. x ∷ l) (append_assoc xs ys zs)

-- those that a tag is not before are a front
pub passed_in_order : {X : Type 0} (tag_of : X → Moment) (tag : Moment) (xs : List X) → AreOrdered tag_of xs → IsPartitionedBy (λ x. not (is_before tag (tag_of x))) xs
passed_in_order {X} tag_of tag xs ordered i j d le within h = elim (cases_eq i j) [
  | inl same ↦ rw same h
  | inr other ↦ passed (tag_of (get_or xs i d)) (tag_of (get_or xs j d)) (ordered i j d (omega arith) within) h
]
  where
    passed : (t u : Moment) → is_before u t ≡ false → not (is_before tag u) ≡ true → not (is_before tag t) ≡ true
    passed t u n b = grind (arith, nat_tests)

-- those that are before it are one
pub before_in_order : (tag : Moment) (tags : List Moment) → AreOrdered (λ t. t) tags → IsPartitionedBy (λ t. is_before t tag) tags
before_in_order tag tags ordered i j d le within h = elim (cases_eq i j) [
  | inl same ↦ rw same h
  | inr other ↦ before_next (get_or tags i d) (get_or tags j d) (ordered i j d (omega arith) within) h
]
  where
    before_next : (t u : Moment) → is_before u t ≡ false → is_before u tag ≡ true → is_before t tag ≡ true
    before_next t u n b = grind (arith, nat_tests)

-- a test turned round
pub not_true : (b : Bool) → not b ≡ true → b ≡ false
not_true true h = cc
not_true false h = refl

pub not_false : (b : Bool) → not b ≡ false → b ≡ true
not_false true h = refl
not_false false h = cc

-- a list that is cut inside
pub take_some : {X : Type 0} (n : ℕ) (xs : List X) → 0 < n → n < length xs → 0 < length (take n xs)
take_some n [] some within = absurd (omega (arith, within))
take_some zero (x ∷ xs) some within = absurd (omega (arith, some))
take_some (suc n) (x ∷ xs) some within = omega arith

pub drop_some : {X : Type 0} (n : ℕ) (xs : List X) → n < length xs → 0 < length (drop n xs)
drop_some n [] within = absurd (omega (arith, within))
drop_some zero (x ∷ xs) within = omega arith
drop_some (suc n) (x ∷ xs) within = drop_some n xs (omega (arith, within))

-- One item more

module _ {X : Type 0} (tag_of : X → Moment) (x : X) where
  -- it passes what it is not before
  pub with_behind : (xs ys : List X) → All (λ y. is_before (tag_of x) (tag_of y) ≡ false) xs → with_item tag_of x (xs ++ ys) ≡ xs ++ with_item tag_of x ys
  with_behind [] ys h = refl
  with_behind (y ∷ xs) ys h =
      rw (All-head (λ (z : X). is_before (tag_of x) (tag_of z) ≡ false) y xs h)
      (ap (λ l. y ∷ l) (with_behind xs ys (All-tail (λ (z : X). is_before (tag_of x) (tag_of z) ≡ false) y xs h)))

  -- and stands before what it is before
  pub with_before : (xs ys : List X) → All (λ y. IsTrue (is_before (tag_of x) (tag_of y))) ys → with_item tag_of x (xs ++ ys) ≡ with_item tag_of x xs ++ ys
  with_before [] [] h = refl
  with_before [] (y ∷ ys) h = rw (All-head (λ (z : X). IsTrue (is_before (tag_of x) (tag_of z))) y ys h) refl
  with_before (y ∷ xs) ys h = elim (cases_Bool (is_before (tag_of x) (tag_of y))) [
    | inl b ↦ rw b refl
    | inr b ↦ rw b (ap (λ l. y ∷ l) (with_before xs ys h))
  ]

  -- behind all it comes last
  pub with_last : (xs : List X) → All (λ y. is_before (tag_of x) (tag_of y) ≡ false) xs → with_item tag_of x xs ≡ xs ++ x ∷ []
  with_last [] h = refl
  with_last (y ∷ xs) h =
      rw (All-head (λ (z : X). is_before (tag_of x) (tag_of z) ≡ false) y xs h)
      (ap (λ l. y ∷ l) (with_last xs (All-tail (λ (z : X). is_before (tag_of x) (tag_of z) ≡ false) y xs h)))

  pub length-with_item : (xs : List X) → length (with_item tag_of x xs) ≡ suc (length xs)
  length-with_item [] = refl
  length-with_item (y ∷ xs) = elim (cases_Bool (is_before (tag_of x) (tag_of y))) [
    | inl b ↦ rw b refl
    | inr b ↦ rw b (ap (λ n. suc n) (length-with_item xs))
  ]

  pub All-with_item : (P : X → Type 0) (xs : List X) → P x → All P xs → All P (with_item tag_of x xs)
  All-with_item P [] here h = All-cons P x [] here h
  All-with_item P (y ∷ xs) here h = elim (cases_Bool (is_before (tag_of x) (tag_of y))) [
    | inl b ↦ rw b (All-cons P x (y ∷ xs) here h)
    | inr b ↦ rw b (All-cons P y (with_item tag_of x xs) (All-head P y xs h) (All-with_item P xs here (All-tail P y xs h)))
  ]

  -- it comes in at its place
  pub insert_item : (xs : List X) (n : ℕ) → n ≡ position_or_len (λ y. is_before (tag_of x) (tag_of y)) xs → insert xs n x ≡ with_item tag_of x xs
  insert_item [] zero p = refl
  insert_item [] (suc n) p = absurd (omega arith)
  insert_item (y ∷ xs) zero p = elim (cases_Bool (is_before (tag_of x) (tag_of y))) [
    | inl b ↦ rw b refl
    | inr b ↦ absurd (let q = rw b at p in omega arith)
  ]
  insert_item (y ∷ xs) (suc n) p = elim (cases_Bool (is_before (tag_of x) (tag_of y))) [
    | inl b ↦ absurd (let q = rw b at p in omega arith)
    | inr b ↦ (
        let q = rw b at p in
        let place : n ≡ position_or_len (λ z. is_before (tag_of x) (tag_of z)) xs = omega arith in
        rw b (ap (λ l. y ∷ l) (insert_item xs n place))
        )
  ]

  -- it keeps the order
  pub ordered-with_item : (xs : List X) → AreOrdered tag_of xs → AreOrdered tag_of (with_item tag_of x xs)
  ordered-with_item [] h = AllPairs-one (λ a b. is_before (tag_of b) (tag_of a) ≡ false) x
  ordered-with_item (y ∷ xs) h =
      let R : X → X → Type 0 = λ a b. is_before (tag_of b) (tag_of a) ≡ false in
      let behind : All (R y) xs = AllPairs-first R y xs h in
      elim (cases_Bool (is_before (tag_of x) (tag_of y))) [
        | inl b ↦ rw b (AllPairs-cons R x (y ∷ xs) (All-cons (R x) y xs (before_not_behind (tag_of x) (tag_of y) b) (All-weaker (R y) (R x) (λ z k. not_before_trans (tag_of z) (tag_of x) (tag_of y) k b) xs behind)) h)
        | inr b ↦ rw b (AllPairs-cons R y (with_item tag_of x xs) (All-with_item (R y) xs b behind) (ordered-with_item xs (AllPairs-tail R y xs h)))
      ]

-- what has none beyond the tag does not begin beyond it
pub begins_none : {X : Type 0} (tag_of : X → Moment) (tag : Moment) (xs : List X) → All (λ x. is_before tag (tag_of x) ≡ false) xs → begins_beyond tag_of tag xs ≡ false
begins_none tag_of tag [] h = refl
begins_none {X} tag_of tag (x ∷ xs) h = All-head (λ (y : X). is_before tag (tag_of y) ≡ false) x xs h

-- of tags
pub item_tag : (tag : Moment) (tags : List Moment) → with_item (λ t. t) tag tags ≡ with_tag tag tags
item_tag tag [] = refl
item_tag tag (t ∷ tags) = ap (λ l. if is_before tag t then tag ∷ t ∷ tags else t ∷ l) (item_tag tag tags)

-- Blocks

module _ {B X : Type 0} (items : B → List X) where
  -- the first item of a block is one of all
  head_of : (P : X → Type 0) (bs : List B) (n : ℕ) (d : B) (x : X) (xs : List X) → n < length bs → All P (flat items bs) → items (get_or bs n d) ≡ x ∷ xs → P x
  head_of P [] n d x xs within h is = absurd (omega (arith, within))
  head_of P (b ∷ bs) zero d x xs within h is = All-head P x (xs ++ flat items bs) (subst (λ (l : List X). All P (l ++ flat items bs)) is h)
  head_of P (b ∷ bs) (suc n) d x xs within h is = head_of P bs n d x xs (omega (arith, within)) (All-right P (items b) (flat items bs) h) is

  -- what stands before a block is related to its first item
  before_head : (R : X → X → Type 0) (zs ys : List X) (x : X) → ((P : X → Type 0) → All P ys → P x) → AllPairs R (zs ++ ys) → All (λ z. R z x) zs
  before_head R [] ys x head h = All-nil (λ z. R z x)
  before_head R (z ∷ zs) ys x head h =
      All-cons (λ y. R y x) z zs (head (R z) (All-right (R z) zs ys (AllPairs-first R z (zs ++ ys) h))) (before_head R zs ys x head (AllPairs-tail R z (zs ++ ys) h))

  pub front_of : (R : X → X → Type 0) (bs : List B) (n : ℕ) (d : B) (x : X) (xs : List X) → n < length bs → AllPairs R (flat items bs) → items (get_or bs n d) ≡ x ∷ xs → All (λ z. R z x) (flat items (take n bs))
  front_of R [] n d x xs within h is = absurd (omega (arith, within))
  front_of R (b ∷ bs) zero d x xs within h is = All-nil (λ z. R z x)
  front_of R (b ∷ bs) (suc n) d x xs within h is =
      All-append (λ z. R z x) (items b) (flat items (take n bs))
      (before_head R (items b) (flat items bs) x (λ P all. head_of P bs n d x xs (omega (arith, within)) all is) h)
      (front_of R bs n d x xs (omega (arith, within)) (pairs_right R (items b) (flat items bs) h) is)

  -- a block with an item has a first one
  first_of : (l : List X) → 0 < length l → (x : X) × (xs : List X) × (l ≡ x ∷ xs)
  first_of [] some = absurd (omega (arith, some))
  first_of (x ∷ xs) some = (x, xs, refl)

  nonempty : (bs : List B) (n : ℕ) (d : B) → AreBlocks items bs → suc n < length bs → 0 < length (items (get_or bs (suc n) d))
  nonempty [] n d h within = absurd (omega (arith, within))
  nonempty (b ∷ bs) n d h within = h n d (omega (arith, within))

  module _ (tag_of : X → Moment) (tag : Moment) where
    abbrev Beyond : X → Type 0
    Beyond x = IsTrue (is_before tag (tag_of x))

    -- where the block does not begin beyond the tag
    front_by : (R : X → X → Type 0) (Q : X → Type 0) → ((y x : X) → R y x → is_before tag (tag_of x) ≡ false → Q y)
        → (bs : List B) (n : ℕ) (d : B) → AreBlocks items bs → n < length bs → AllPairs R (flat items bs) → (n ≡ 0) ⊎ (begins_beyond tag_of tag (items (get_or bs n d)) ≡ false)
        → All Q (flat items (take n bs))
    front_by R Q step bs zero d kept within h low = All-nil Q
    front_by R Q step bs (suc n) d kept within h (inl zero_is) = absurd (omega (arith, zero_is))
    front_by R Q step bs (suc n) d kept within h (inr low) =
        let first = first_of (items (get_or bs (suc n) d)) (nonempty bs n d kept within) in
        let at : is_before tag (tag_of first.0) ≡ false = sym (ap (begins_beyond tag_of tag) first.2) ∙ low in
        All-weaker (λ y. R y first.0) Q (λ y r. step y first.0 r at) (flat items (take (suc n) bs)) (front_of R bs (suc n) d first.0 first.1 within h first.2)

    begun : (l ys : List X) → AreOrdered tag_of (l ++ ys) → begins_beyond tag_of tag l ≡ true → All Beyond (l ++ ys)
    begun [] ys h begins = absurd (false≢true begins)
    begun (x ∷ xs) ys h begins =
        All-cons Beyond x (xs ++ ys) begins
        (All-weaker (λ y. is_before (tag_of y) (tag_of x) ≡ false) Beyond (λ y k. further (tag_of x) (tag_of y) k begins) (xs ++ ys) (AllPairs-first (λ a b. is_before (tag_of b) (tag_of a) ≡ false) x (xs ++ ys) h))
      where
        further : (t u : Moment) → is_before u t ≡ false → is_before tag t ≡ true → is_before tag u ≡ true
        further t u k b = grind (arith, nat_tests)

    back_by : (bs : List B) (n : ℕ) (d : B) → AreOrdered tag_of (flat items bs) → (n < length bs → begins_beyond tag_of tag (items (get_or bs n d)) ≡ true) → All Beyond (flat items (drop n bs))
    back_by [] zero d h begins = All-nil Beyond
    back_by [] (suc n) d h begins = All-nil Beyond
    back_by (b ∷ bs) zero d h begins = begun (items b) (flat items bs) h (begins (omega arith))
    back_by (b ∷ bs) (suc n) d h begins = back_by bs n d (pairs_right (λ a b. is_before (tag_of b) (tag_of a) ≡ false) (items b) (flat items bs) h) (λ l. begins (omega (arith, l)))

    -- the block of a tag
    pub block_is : (bs : List B) (n : ℕ) (d : B) → AreBlocks items bs → AreOrdered tag_of (flat items bs) → n < length bs
        → (n ≡ 0) ⊎ (begins_beyond tag_of tag (items (get_or bs n d)) ≡ false)
        → (suc n < length bs → begins_beyond tag_of tag (items (get_or bs (suc n) d)) ≡ true) → IsBlockOf items tag_of tag bs n
    block_is bs n d kept h within low high = record {
      within = within;
      front = front_by (λ a b. is_before (tag_of b) (tag_of a) ≡ false) (λ x. is_before tag (tag_of x) ≡ false) (λ y x r k. not_beyond tag (tag_of y) (tag_of x) r k) bs n d kept within h low;
      back = back_by bs (suc n) d h high;
      strict = λ s. front_by (λ a b. IsTrue (is_before (tag_of a) (tag_of b))) (λ x. IsTrue (is_before (tag_of x) tag)) (λ y x r k. nearer (tag_of y) (tag_of x) r k) bs n d kept within s low;
    }
      where
        nearer : (t u : Moment) → is_before t u ≡ true → is_before tag u ≡ false → is_before t tag ≡ true
        nearer t u b k = grind (arith, nat_tests)

    pub block_from : (bs : List B) (n : ℕ) → AreBlocks items bs → AreOrdered tag_of (flat items bs) → n < length bs
        → ((d : B) → (n ≡ 0) ⊎ (begins_beyond tag_of tag (items (get_or bs n d)) ≡ false))
        → ((d : B) → suc n < length bs → begins_beyond tag_of tag (items (get_or bs (suc n) d)) ≡ true) → IsBlockOf items tag_of tag bs n
    block_from [] n kept h within low high = absurd (omega (arith, within))
    block_from (b ∷ bs) n kept h within low high = block_is (b ∷ bs) n b kept h within (low b) (high b)

  -- What stands before a block and behind it
  pub parted : (bs : List B) (n : ℕ) (d : B) → n < length bs → flat items bs ≡ flat items (take n bs) ++ (items (get_or bs n d) ++ flat items (drop (suc n) bs))
  parted [] n d within = absurd (omega (arith, within))
  parted (b ∷ bs) zero d within = refl
  parted (b ∷ bs) (suc n) d within = ap (λ l. items b ++ l) (parted bs n d (omega (arith, within))) ∙ sym (append_assoc (items b) (flat items (take n bs)) (items (get_or bs n d) ++ flat items (drop (suc n) bs)))

  pub parted_set : (bs : List B) (n : ℕ) (b : B) → n < length bs → flat items (set bs n b) ≡ flat items (take n bs) ++ (items b ++ flat items (drop (suc n) bs))
  parted_set [] n b within = absurd (omega (arith, within))
  parted_set (c ∷ bs) zero b within = refl
  parted_set (c ∷ bs) (suc n) b within = ap (λ l. items c ++ l) (parted_set bs n b (omega (arith, within))) ∙ sym (append_assoc (items c) (flat items (take n bs)) (items b ++ flat items (drop (suc n) bs)))

  -- a block in order
  pub block_ordered : (tag_of : X → Moment) (bs : List B) (n : ℕ) (d : B) → n < length bs → AreOrdered tag_of (flat items bs) → AreOrdered tag_of (items (get_or bs n d))
  block_ordered tag_of bs n d within h =
      let R : X → X → Type 0 = λ a b. is_before (tag_of b) (tag_of a) ≡ false in
      pairs_left R (items (get_or bs n d)) (flat items (drop (suc n) bs))
      (pairs_right R (flat items (take n bs)) (items (get_or bs n d) ++ flat items (drop (suc n) bs)) (subst (AllPairs R) (parted bs n d within) h))

  -- an item that comes in in its block
  pub put_flat : (tag_of : X → Moment) (x : X) (bs : List B) (n : ℕ) (b d : B) → IsBlockOf items tag_of (tag_of x) bs n → items b ≡ with_item tag_of x (items (get_or bs n d)) → flat items (set bs n b) ≡ with_item tag_of x (flat items bs)
  put_flat tag_of x bs n b d block is =
      let front = flat items (take n bs) in
      let own = items (get_or bs n d) in
      let back = flat items (drop (suc n) bs) in
      parted_set bs n b block.within
      ∙ ap (λ l. front ++ (l ++ back)) is
      ∙ ap (λ l. front ++ l) (sym (with_before tag_of x own back block.back))
      ∙ sym (with_behind tag_of x front (own ++ back) block.front)
      ∙ sym (ap (with_item tag_of x) (parted bs n d block.within))

  pub set_kept : (bs : List B) (n : ℕ) (b : B) → AreBlocks items bs → 0 < length (items b) → AreBlocks items (set bs n b)
  set_kept [] n b h some = h
  set_kept (c ∷ bs) zero b h some = h
  set_kept (c ∷ bs) (suc n) b h some = All-set (λ a. 0 < length (items a)) bs n b some h

  pub put_kept : (tag_of : X → Moment) (x : X) (bs : List B) (n : ℕ) (b d : B) → AreBlocks items bs → items b ≡ with_item tag_of x (items (get_or bs n d)) → AreBlocks items (set bs n b)
  put_kept tag_of x bs n b d h is =
      let many : length (items b) ≡ suc (length (items (get_or bs n d))) = ap (λ l. length l) is ∙ length-with_item tag_of x (items (get_or bs n d)) in
      set_kept bs n b h (omega (arith, many))

  -- A block with the same items
  module _ (bs : List B) (n : ℕ) (b d : B) (within : n < length bs) (same : items b ≡ items (get_or bs n d)) where
    pub same_flat : flat items (set bs n b) ≡ flat items bs
    same_flat = parted_set bs n b within ∙ ap (λ l. flat items (take n bs) ++ (l ++ flat items (drop (suc n) bs))) same ∙ sym (parted bs n d within)

  pub long_kept : (bs : List B) (n : ℕ) (b d : B) → n < length bs → length (items b) ≡ length (items (get_or bs n d)) → AreBlocks items bs → AreBlocks items (set bs n b)
  long_kept [] n b d within same h = h
  long_kept (c ∷ bs) zero b d within same h = h
  long_kept (c ∷ bs) (suc n) b d within same h = All-set (λ a. 0 < length (items a)) bs n b (subst (λ (k : ℕ). 0 < k) (sym same) (h n d (omega (arith, within)))) h

  pub same_kept : (bs : List B) (n : ℕ) (b d : B) → n < length bs → items b ≡ items (get_or bs n d) → AreBlocks items bs → AreBlocks items (set bs n b)
  same_kept bs n b d within same h = long_kept bs n b d within (ap (λ l. length l) same) h

  take_set : (bs : List B) (n : ℕ) (b : B) → take n (set bs n b) ≡ take n bs
  take_set [] zero b = refl
  take_set [] (suc n) b = refl
  take_set (c ∷ bs) zero b = refl
  take_set (c ∷ bs) (suc n) b = ap (λ l. c ∷ l) (take_set bs n b)

  drop_set : (bs : List B) (n : ℕ) (b : B) → drop (suc n) (set bs n b) ≡ drop (suc n) bs
  drop_set [] zero b = refl
  drop_set [] (suc n) b = refl
  drop_set (c ∷ bs) zero b = refl
  drop_set (c ∷ bs) (suc n) b = drop_set bs n b

  length_set : (bs : List B) (n : ℕ) (b : B) → length (set bs n b) ≡ length bs
  length_set [] zero b = refl
  length_set [] (suc n) b = refl
  length_set (c ∷ bs) zero b = refl
  length_set (c ∷ bs) (suc n) b = ap (λ k. suc k) (length_set bs n b)

  pub same_block : (tag_of : X → Moment) (tag : Moment) (bs : List B) (n : ℕ) (b d : B) → items b ≡ items (get_or bs n d) → IsBlockOf items tag_of tag bs n → IsBlockOf items tag_of tag (set bs n b) n
  same_block tag_of tag bs n b d same block = record {
    within = subst (λ (k : ℕ). n < k) (sym (length_set bs n b)) block.within;
    front = subst (λ (cs : List B). All (λ x. is_before tag (tag_of x) ≡ false) (flat items cs)) (sym (take_set bs n b)) block.front;
    back = subst (λ (cs : List B). All (λ x. IsTrue (is_before tag (tag_of x))) (flat items cs)) (sym (drop_set bs n b)) block.back;
    strict = λ s. subst (λ (cs : List B). All (λ x. IsTrue (is_before (tag_of x) tag)) (flat items cs)) (sym (take_set bs n b))
        (block.strict (subst (AreStrict tag_of) (same_flat bs n b d block.within same) s));
  }

  -- Blocks where there were none
  pub first_flat : (bs : List B) (b : B) → length bs ≡ 0 → length (items b) ≡ 0 → flat items (bs ++ b ∷ []) ≡ flat items bs
  first_flat [] b none empty = ap (λ l. l ++ []) (none_is (items b) empty)
    where
      none_is : (l : List X) → length l ≡ 0 → l ≡ []
      none_is [] e = refl
      none_is (x ∷ l) e = absurd (omega (arith, e))
  first_flat (c ∷ bs) b none empty = absurd (omega (arith, none))

  pub first_kept : (bs : List B) (b : B) → length bs ≡ 0 → AreBlocks items (bs ++ b ∷ [])
  first_kept [] b none = All-nil (λ a. 0 < length (items a))
  first_kept (c ∷ bs) b none = absurd (omega (arith, none))

  -- A block parted in two
  pub part_flat : (bs : List B) (n : ℕ) (b more d : B) → n < length bs → items b ++ items more ≡ items (get_or bs n d) → flat items (insert (set bs n b) (suc n) more) ≡ flat items bs
  part_flat [] n b more d within is = absurd (omega (arith, within))
  part_flat (c ∷ bs) zero b more d within is = sym (append_assoc (items b) (items more) (flat items bs)) ∙ ap (λ l. l ++ flat items bs) is
  part_flat (c ∷ bs) (suc n) b more d within is = ap (λ l. items c ++ l) (part_flat bs n b more d (omega (arith, within)) is)

  pub part_kept : (bs : List B) (n : ℕ) (b more : B) → n < length bs → AreBlocks items bs → 0 < length (items b) → 0 < length (items more) → AreBlocks items (insert (set bs n b) (suc n) more)
  part_kept [] n b more within h some any = absurd (omega (arith, within))
  part_kept (c ∷ bs) zero b more within h some any = All-cons (λ a. 0 < length (items a)) more bs any h
  part_kept (c ∷ bs) (suc n) b more within h some any =
      All-insert (λ a. 0 < length (items a)) (set bs n b) (suc n) more any (All-set (λ a. 0 < length (items a)) bs n b some h)

  -- items that pass a test: in a block, and in those behind it
  pub passing_next : (p : X → Bool) (bs : List B) (n : ℕ) (d : B) → n < length bs
      → length (filter p (flat items (drop n bs))) ≡ length (filter p (items (get_or bs n d))) + length (filter p (flat items (drop (suc n) bs)))
  passing_next p [] n d within = absurd (omega (arith, within))
  passing_next p (b ∷ bs) zero d within = both (items b)
    where
      both : (xs : List X) → length (filter p (xs ++ flat items bs)) ≡ length (filter p xs) + length (filter p (flat items bs))
      both [] = omega arith
      both (x ∷ xs) =
          let rest : length (filter p (xs ++ flat items bs)) ≡ length (filter p xs) + length (filter p (flat items bs)) = both xs in
          elim (cases_Bool (p x)) [
            | inl h ↦ rw h (omega (arith, rest))
            | inr h ↦ rw h rest
          ]
  passing_next p (b ∷ bs) (suc n) d within = passing_next p bs n d (omega (arith, within))

-- Up to a last item that is before a tag all are
module _ {X : Type 0} (tag_of : X → Moment) (tag : Moment) where
  whole : (xs : List X) (last d : X) → 0 < length xs → get_or xs (length xs - 1) d ≡ last → AreOrdered tag_of xs → is_before (tag_of last) tag ≡ true → All (λ x. IsTrue (is_before (tag_of x) tag)) xs
  whole xs last d some read ordered before = λ k e l. elim (cases_eq k (length xs - 1)) [
    | inl same ↦ rw same (at_last e)
    | inr other ↦ earlier (tag_of (get_or xs (length xs - 1) e)) (tag_of (get_or xs k e)) (ordered k (length xs - 1) e (omega arith) (omega (arith, some))) (at_last e)
  ]
    where
      earlier : (t u : Moment) → is_before t u ≡ false → is_before t tag ≡ true → is_before u tag ≡ true
      earlier t u k b = grind (arith, nat_tests)

      at_last : (e : X) → is_before (tag_of (get_or xs (length xs - 1) e)) tag ≡ true
      at_last e = subst (λ (x : X). is_before (tag_of x) tag ≡ true) (sym read ∙ get_or_default xs (length xs - 1) d e (omega (arith, some))) before

  module _ {B : Type 0} (items : B → List X) where
    past : (n : ℕ) (bs : List B) → length bs ≤ n → drop n bs ≡ []
    past zero [] h = refl
    past (suc n) [] h = refl
    past zero (b ∷ bs) h = absurd (omega (arith, h))
    past (suc n) (b ∷ bs) h = past n bs (omega (arith, h))

    last_of : (bs : List B) (d : B) (e : X) → 0 < length bs → 0 < length (items (get_or bs (length bs - 1) d))
        → get_or (flat items bs) (length (flat items bs) - 1) e ≡ get_or (items (get_or bs (length bs - 1) d)) (length (items (get_or bs (length bs - 1) d)) - 1) e
    last_of bs d e some any =
        let n = length bs - 1 in
        let front = flat items (take n bs) in
        let own = items (get_or bs n d) in
        let none : drop (suc n) bs ≡ [] = past (suc n) bs (omega (arith, some)) in
        let is : flat items bs ≡ front ++ own = parted items bs n d (omega (arith, some)) ∙ ap (λ (cs : List B). front ++ (own ++ flat items cs)) none ∙ ap (λ (l : List X). front ++ l) (append-nil own) in
        let long : length (front ++ own) ≡ length front + length own = length-append front own in
        ap (λ (l : List X). get_or l (length l - 1) e) is
        ∙ ap (λ (k : ℕ). get_or (front ++ own) k e) (omega (arith, long, any))
        ∙ get_or-append-add front own (length own - 1) e

    pub all_passed : (bs : List B) (d : B) (last : X) → 0 < length bs → 0 < length (items (get_or bs (length bs - 1) d))
        → last ≡ get_or (items (get_or bs (length bs - 1) d)) (length (items (get_or bs (length bs - 1) d)) - 1) last
        → AreOrdered tag_of (flat items bs) → is_before (tag_of last) tag ≡ true → All (λ x. IsTrue (is_before (tag_of x) tag)) (flat items bs)
    all_passed bs d last some any read ordered before =
        let n = length bs - 1 in
        let own = items (get_or bs n d) in
        let long : length (flat items bs) ≡ length (flat items (take n bs)) + length (own ++ flat items (drop (suc n) bs)) =
        ap (λ (l : List X). length l) (parted items bs n d (omega (arith, some))) ∙ length-append (flat items (take n bs)) (own ++ flat items (drop (suc n) bs)) in
        let more : length (own ++ flat items (drop (suc n) bs)) ≡ length own + length (flat items (drop (suc n) bs)) = length-append own (flat items (drop (suc n) bs)) in
        whole (flat items bs) last last (omega (arith, any, long, more)) (last_of bs d last some any ∙ sym read) ordered before
