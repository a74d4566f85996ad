-- Rows in blocks: what they say of a tag, with one row more, and with one changed.
use Rattle.std.proofs.Common.{◌≡◌, ℕ, zero, suc, ◌<◌, true, false, IsTrue, is_some, Option, Some, None, List, [], ◌∷◌, ◌++◌, drop, take, length, get_or, map, set, inl, inr, refl, sym, ap, subst, ◌∙◌, arith}
use Rattle.std.specs.List.{All, AllPairs, position_or_len}
use Rattle.std.proofs.lemmas.Bool.{cases_Bool, false≢true}
use Rattle.std.proofs.lemmas.Bool.Decides.{nat_tests}
use Rattle.std.proofs.lemmas.List.Elements.{All-cons, All-head, All-map, All-nil, All-tail, All-weaker}
use Rattle.std.proofs.lemmas.List.Kept.{AllPairs-cons}
use Rattle.warp_tag.specs.Moment.{Moment, is_before, is_same}
use Rattle.warp_tag.proofs.Tags.{before_trans, same_is}
use Rattle.warp_table.specs.declared.rows.Known.{Known}
use Rattle.warp_table.specs.declared.rows.NameRow.{NameRow}
use Rattle.warp_table.specs.inner.Blocks.{AreOrdered, IsBlockOf, flat, with_item}
use Rattle.warp_table.specs.inner.NamesByOrigin.{AreInOrder, IsWith, row_of}
use Rattle.warp_table.proofs.BlockLists.{All-left, All-right, All-with_item, insert_item, pairs_left, pairs_right, parted, parted_set}
use Rattle.warp_table.proofs.InOrder.{before_not_behind}
use Rattle.warp_table.proofs.Members.{AllPairs-first, AllPairs-one, AllPairs-tail}
use Rattle.warp_table.proofs.OriginRows.{none_behind, says_with}

-- its tag
abbrev pub tag_of : NameRow → Moment
tag_of r = r.tag

abbrev Before : NameRow → NameRow → Type 0
Before a b = IsTrue (is_before a.tag b.tag)

-- tags of which one is before the other differ
behind_differs : (t u : Moment) → is_before u t ≡ true → is_same t u ≡ false
behind_differs t u h = grind (arith, nat_tests)

before_else : (t u : Moment) → is_before t u ≡ false → is_same t u ≡ false → is_before u t ≡ true
before_else t u h k = grind (arith, nat_tests)

-- strict order is order
pub ordered_rows : (rows : List NameRow) → AreInOrder rows → AreOrdered tag_of rows
ordered_rows rows h = λ i j d before within. before_not_behind (get_or rows i d).tag (get_or rows j d).tag (h i j d before within)

-- What parts say

-- what the one says, or else the other
abbrev or_else : Option Known → Option Known → Option Known
or_else None other = other
or_else (Some k) other = Some k

row_append : (tag : Moment) (xs ys : List NameRow) → row_of tag (xs ++ ys) ≡ or_else (row_of tag xs) (row_of tag ys)
row_append tag [] ys = refl
row_append tag (r ∷ xs) ys = elim (cases_Bool (is_same tag r.tag)) [
  | inl b ↦ rw b refl
  | inr b ↦ rw b (row_append tag xs ys)
]

-- rows before a tag say nothing of it
pub none_before : (tag : Moment) (rows : List NameRow) → All (λ r. IsTrue (is_before r.tag tag)) rows → row_of tag rows ≡ None
none_before tag [] all = refl
none_before tag (r ∷ rows) all =
    rw (behind_differs tag r.tag (All-head (λ (q : NameRow). IsTrue (is_before q.tag tag)) r rows all)) (none_before tag rows (All-tail (λ (q : NameRow). IsTrue (is_before q.tag tag)) r rows all))

or_none : (k : Option Known) → or_else k None ≡ k
or_none None = refl
or_none (Some k) = refl

-- One row more

pub says_item : (row : NameRow) (rows : List NameRow) → row_of row.tag rows ≡ None → IsWith row.tag row.known rows (with_item tag_of row rows)
says_item row rows none =
    let n = position_or_len (λ (r : NameRow). is_before row.tag r.tag) rows in
    subst (λ (rs : List NameRow). IsWith row.tag row.known rows rs) (insert_item tag_of row rows n refl) (says_with row rows n none)

pub in_order_item : (row : NameRow) (rows : List NameRow) → row_of row.tag rows ≡ None → AreInOrder rows → AreInOrder (with_item tag_of row rows)
in_order_item row [] none h = AllPairs-one Before row
in_order_item row (r ∷ rows) none h = elim (cases_Bool (is_before row.tag r.tag)) [
  | inl b ↦ rw b (AllPairs-cons Before row (r ∷ rows)
      (All-cons (Before row) r rows b (All-weaker (Before r) (Before row) (λ q k. before_trans row.tag r.tag q.tag b k) rows (AllPairs-first Before r rows h))) h)
  | inr b ↦ elim (cases_Bool (is_same row.tag r.tag)) [
    | inl same ↦ absurd (some_none (rw same at none))
    | inr differs ↦ (
        let rest : row_of row.tag rows ≡ None = rw differs at none in
        rw b (AllPairs-cons Before r (with_item tag_of row rows)
        (All-with_item tag_of row (Before r) rows (before_else row.tag r.tag b differs) (AllPairs-first Before r rows h))
        (in_order_item row rows rest (AllPairs-tail Before r rows h)))
        )
  ]
]
  where
    some_none : {X : Type 0} {x : X} → Some x ≡ None → ⊥
    some_none e = cc

-- Order is of tags alone

module _ {X Y : Type 0} (f : X → Y) where
  of_map : (P : Y → Type 0) (xs : List X) → All P (map f xs) → All (λ x. P (f x)) xs
  of_map P [] h = All-nil (λ x. P (f x))
  of_map P (x ∷ xs) h = All-cons (λ y. P (f y)) x xs (All-head P (f x) (map f xs) h) (of_map P xs (All-tail P (f x) (map f xs) h))

  pairs_to_map : (R : Y → Y → Type 0) (xs : List X) → AllPairs (λ a b. R (f a) (f b)) xs → AllPairs R (map f xs)
  pairs_to_map R [] h = λ i j d lt l. absurd (omega (arith, l))
  pairs_to_map R (x ∷ xs) h =
      AllPairs-cons R (f x) (map f xs) (All-map (R (f x)) f xs (AllPairs-first (λ a b. R (f a) (f b)) x xs h)) (pairs_to_map R xs (AllPairs-tail (λ a b. R (f a) (f b)) x xs h))

  pairs_of_map : (R : Y → Y → Type 0) (xs : List X) → AllPairs R (map f xs) → AllPairs (λ a b. R (f a) (f b)) xs
  pairs_of_map R [] h = λ i j d lt l. absurd (omega (arith, l))
  pairs_of_map R (x ∷ xs) h =
      AllPairs-cons (λ a b. R (f a) (f b)) x xs (of_map (R (f x)) xs (AllPairs-first R (f x) (map f xs) h)) (pairs_of_map R xs (AllPairs-tail R (f x) (map f xs) h))

  map_both : (xs ys : List X) → map f (xs ++ ys) ≡ map f xs ++ map f ys
  map_both [] ys = refl
  map_both (x ∷ xs) ys = ap (λ l. f x ∷ l) (map_both xs ys)

  pub map_long : (xs : List X) → length (map f xs) ≡ length xs
  map_long [] = refl
  map_long (x ∷ xs) = ap (λ n. suc n) (map_long xs)

-- a list that is written over whole
pub refill : {X : Type 0} (ws ys : List X) (n : ℕ) → length ws ≡ n → take n (ws ++ ys) ≡ ws
refill [] ys zero many = refl
refill [] ys (suc n) many = absurd (omega (arith, many))
refill (x ∷ ws) ys zero many = absurd (omega (arith, many))
refill (x ∷ ws) ys (suc n) many = ap (λ l. x ∷ l) (refill ws ys n (omega (arith, many)))

pub same_order : (xs ys : List NameRow) → map tag_of ys ≡ map tag_of xs → AreInOrder xs → AreInOrder ys
same_order xs ys same h =
    let R : Moment → Moment → Type 0 = λ t u. IsTrue (is_before t u) in
    pairs_of_map tag_of R ys (subst (AllPairs R) (sym same) (pairs_to_map tag_of R xs h))

-- each of a front is before each behind it
across : (xs ys : List NameRow) → AreInOrder (xs ++ ys) → All (λ x. All (Before x) ys) xs
across [] ys h = All-nil (λ (x : NameRow). All (Before x) ys)
across (x ∷ xs) ys h =
    All-cons (λ (y : NameRow). All (Before y) ys) x xs (All-right (Before x) xs ys (AllPairs-first Before x (xs ++ ys) h)) (across xs ys (AllPairs-tail Before x (xs ++ ys) h))

-- Blocks of rows

module _ {B : Type 0} (items : B → List NameRow) where
  -- a row of a tag stands in the tag's block
  pub block_of_row : (bs : List B) (n : ℕ) (d : B) (i : ℕ) (r : NameRow) → n < length bs → i < length (items (get_or bs n d)) → r ≡ get_or (items (get_or bs n d)) i r → AreInOrder (flat items bs)
      → IsBlockOf items tag_of r.tag bs n
  block_of_row bs n d i r within inside is h =
      let front = flat items (take n bs) in
      let own = items (get_or bs n d) in
      let back = flat items (drop (suc n) bs) in
      let whole : AreInOrder (front ++ (own ++ back)) = subst AreInOrder (parted items bs n d within) h in
      let before : All (λ (x : NameRow). IsTrue (is_before x.tag r.tag)) front =
      All-weaker (λ (x : NameRow). All (Before x) (own ++ back)) (λ (x : NameRow). IsTrue (is_before x.tag r.tag))
      (λ x all. subst (Before x) (sym is) (All-left (Before x) own back all i r inside)) front (across front (own ++ back) whole) in
      record {
        within = within;
        front = All-weaker (λ (x : NameRow). IsTrue (is_before x.tag r.tag)) (λ (x : NameRow). is_before r.tag x.tag ≡ false) (λ x k. before_not_behind x.tag r.tag k) front before;
        back = subst (λ (q : NameRow). All (Before q) back) (sym is) (across own back (pairs_right Before front (own ++ back) whole) i r inside);
        strict = λ strict. before;
      }

  pub some_blocks : (tag : Moment) (bs : List B) → is_some (row_of tag (flat items bs)) ≡ true → 0 < length bs
  some_blocks tag [] some = absurd (false≢true some)
  some_blocks tag (b ∷ bs) some = omega arith

  pub row_block : (bs : List B) (n : ℕ) (d : B) → n < length bs → AreInOrder (flat items bs) → AreInOrder (items (get_or bs n d))
  row_block bs n d within h =
      pairs_left Before (items (get_or bs n d)) (flat items (drop (suc n) bs))
      (pairs_right Before (flat items (take n bs)) (items (get_or bs n d) ++ flat items (drop (suc n) bs)) (subst (AllPairs Before) (parted items bs n d within) h))

  module _ (tag : Moment) (bs : List B) (n : ℕ) (d : B) (block : IsBlockOf items tag_of tag bs n) (h : AreInOrder (flat items bs)) where
    none_front : row_of tag (flat items (take n bs)) ≡ None
    none_front = none_before tag (flat items (take n bs)) (block.strict h)

    none_back : row_of tag (flat items (drop (suc n) bs)) ≡ None
    none_back = none_behind tag (flat items (drop (suc n) bs)) block.back

    -- a tag's block says what all say
    pub block_says : row_of tag (items (get_or bs n d)) ≡ row_of tag (flat items bs)
    block_says =
        let own = items (get_or bs n d) in
        let back = flat items (drop (suc n) bs) in
        sym (ap (row_of tag) (parted items bs n d block.within)
        ∙ row_append tag (flat items (take n bs)) (own ++ back)
        ∙ ap (λ k. or_else k (row_of tag (own ++ back))) none_front
        ∙ row_append tag own back
        ∙ ap (or_else (row_of tag own)) none_back
        ∙ or_none (row_of tag own))

    -- and with a row changed there all have it
    pub says_set : (known : Known) (b : B) → IsWith tag known (items (get_or bs n d)) (items b) → IsWith tag known (flat items bs) (flat items (set bs n b))
    says_set known b with other =
        let front = flat items (take n bs) in
        let own = items (get_or bs n d) in
        let back = flat items (drop (suc n) bs) in
        ap (row_of other) (parted_set items bs n b block.within)
        ∙ row_append other front (items b ++ back) ∙ ap (or_else (row_of other front)) (row_append other (items b) back ∙ ap (λ k. or_else k (row_of other back)) (with other))
        ∙ elim (cases_Bool (is_same other tag)) [
          | inl same ↦ rw same (ap (λ k. or_else k (Some known)) (ap (λ (t : Moment). row_of t front) (same_is other tag same) ∙ none_front))
          | inr differs ↦ rw differs (sym (ap (row_of other) (parted items bs n d block.within) ∙ row_append other front (own ++ back) ∙ ap (or_else (row_of other front)) (row_append other own back)))
        ]

  -- the tags of all are those of before, where those of a block are
  pub tags_set : (bs : List B) (n : ℕ) (b d : B) → n < length bs → map tag_of (items b) ≡ map tag_of (items (get_or bs n d)) → map tag_of (flat items (set bs n b)) ≡ map tag_of (flat items bs)
  tags_set bs n b d within same =
      let front = flat items (take n bs) in
      let own = items (get_or bs n d) in
      let back = flat items (drop (suc n) bs) in
      ap (map tag_of) (parted_set items bs n b within)
      ∙ map_both tag_of front (items b ++ back)
      ∙ ap (λ l. map tag_of front ++ l) (map_both tag_of (items b) back ∙ ap (λ l. l ++ map tag_of back) same ∙ sym (map_both tag_of own back))
      ∙ sym (map_both tag_of front (own ++ back))
      ∙ sym (ap (map tag_of) (parted items bs n d within))
