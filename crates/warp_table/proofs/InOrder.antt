-- Lists in order of tags: the place of a tag, and the counts of tags before one.
use Rattle.std.proofs.Common.{◌≡◌, ◌⊎◌, ℕ, zero, suc, ◌+◌, ◌<◌, ◌≤◌, Bool, true, false, List, [], ◌∷◌, length, filter, get_or, Contains, IsTrue, inl, inr, sym, subst, ap, refl, arith, below_more}
use Rattle.std.specs.List.{All, AllPairs, insert, position_or_len}
use Rattle.std.proofs.lemmas.Bool.{cases_Bool}
use Rattle.std.proofs.lemmas.Bool.Decides.{nat_tests}
use Rattle.std.proofs.lemmas.List.{get_or_read}
use Rattle.std.proofs.lemmas.List.Elements.{All-cons, All-weaker}
use Rattle.std.proofs.lemmas.List.Kept.{AllPairs-cons}
use Rattle.std.proofs.lemmas.List.Sums.{count_by-le-length, length-filter, position_or_len_is}
use Rattle.warp_tag.specs.Moment.{Moment, is_before}
use Rattle.warp_tag.proofs.Tags.{before_trans, same_moment}
use Rattle.warp_table.specs.inner.Heard.{AreAscending, count_before, with_tag}
use Rattle.warp_table.proofs.Members.{All-insert, AllPairs-first, AllPairs-one, AllPairs-tail, Contains-here, Contains-there, Contains-from_insert, Contains-insert}

-- the place at which a test begins to pass
pub first_place : {X : Type 0} (p : X → Bool) (xs : List X) (n : ℕ) → n ≤ length xs → ((k : ℕ) (d : X) → k < n → p (get_or xs k d) ≡ false) → ((d : X) → n < length xs → p (get_or xs n d) ≡ true) → position_or_len p xs ≡ n
first_place p [] n h below there = omega arith
first_place p (x ∷ xs) n h below there = position_or_len_is p (x ∷ xs) n x h (λ k l. below k x l) (there x)

-- what is not beyond a tag that is not beyond another is not beyond that
pub not_beyond : (t u v : Moment) → is_before v u ≡ false → is_before t v ≡ false → is_before t u ≡ false
not_beyond t u v h k = grind (arith, nat_tests)

-- up to one that is not beyond the tag none is
pub front_passes : {X : Type 0} (tag_of : X → Moment) (tag : Moment) (xs : List X) (n : ℕ) (x : X) → AllPairs (λ a b. is_before (tag_of b) (tag_of a) ≡ false) xs → n < length xs → x ≡ get_or xs n x → is_before tag (tag_of x) ≡ false → (k : ℕ) (d : X) → k < n + 1 → is_before tag (tag_of (get_or xs k d)) ≡ false
front_passes {X} tag_of tag xs n x ordered within read h k d l =
    let here : is_before tag (tag_of (get_or xs n d)) ≡ false = subst (λ (y : X). is_before tag (tag_of y) ≡ false) (get_or_read xs n x within read d) h in
    below_more (λ i. is_before tag (tag_of (get_or xs i d)) ≡ false) n
    (λ i below. not_beyond tag (tag_of (get_or xs i d)) (tag_of (get_or xs n d)) (ordered i n d below within) here) here k l

-- what passes a test is as many as the front that passes, where the rest does not
pub filter_front : {X : Type 0} (p : X → Bool) (xs : List X) (n : ℕ) → n ≤ length xs → ((k : ℕ) (d : X) → k < n → p (get_or xs k d) ≡ true) → ((k : ℕ) (d : X) → n ≤ k → k < length xs → p (get_or xs k d) ≡ false) → length (filter p xs) ≡ n
filter_front p [] n le front rest = omega arith
filter_front p (x ∷ xs) zero le front rest =
    rw (rest 0 x (omega arith) (omega arith)) (filter_front p xs 0 (omega arith) (λ k d l. absurd (omega arith)) (λ k d l within. rest (suc k) d (omega arith) (omega arith)))
filter_front p (x ∷ xs) (suc n) le front rest =
    rw (front 0 x (omega arith))
    (ap (λ (m : ℕ). suc m) (filter_front p xs n (omega arith) (λ k d l. front (suc k) d (omega arith)) (λ k d l within. rest (suc k) d (omega arith) (omega arith))))

-- a tag that is before another is not behind it
pub before_not_behind : (t u : Moment) → is_before t u ≡ true → is_before u t ≡ false
before_not_behind t u h = grind (arith, nat_tests)

-- a tag comes in at its place
pub insert-place : (tag : Moment) (tags : List Moment) (n : ℕ) → n ≡ position_or_len (λ t. is_before tag t) tags → insert tags n tag ≡ with_tag tag tags
insert-place tag [] zero p = refl
insert-place tag [] (suc n) p = absurd (omega arith)
insert-place tag (t ∷ tags) zero p = elim (cases_Bool (is_before tag t)) [
  | inl b ↦ rw b refl
  | inr b ↦ absurd (let q = rw b at p in omega arith)
]
insert-place tag (t ∷ tags) (suc n) p = elim (cases_Bool (is_before tag t)) [
  | inl b ↦ absurd (let q = rw b at p in omega arith)
  | inr b ↦ (
      let q = rw b at p in
      let place : n ≡ position_or_len (λ u. is_before tag u) tags = omega arith in
      rw b (ap (λ ts. t ∷ ts) (insert-place tag tags n place))
      )
]

-- what is of all tags and of one more
pub All-with_tag : (P : Moment → Type 0) (tag : Moment) (tags : List Moment) → P tag → All P tags → All P (with_tag tag tags)
All-with_tag P tag tags here all =
    subst (All P) (insert-place tag tags (position_or_len (λ t. is_before tag t) tags) refl)
    (All-insert P tags (position_or_len (λ t. is_before tag t) tags) tag here all)

-- a new tag keeps the order
pub ascending-with_tag : (tag : Moment) (tags : List Moment) → AreAscending tags → (Contains tags tag → ⊥) → AreAscending (with_tag tag tags)
ascending-with_tag tag [] ascending new = AllPairs-one (λ t u. IsTrue (is_before t u)) tag
ascending-with_tag tag (t ∷ tags) ascending new =
    let R : Moment → Moment → Type 0 = λ u v. IsTrue (is_before u v) in
    let behind : All (R t) tags = AllPairs-first R t tags ascending in
    let rest : AreAscending tags = AllPairs-tail R t tags ascending in
    elim (cases_Bool (is_before tag t)) [
      | inl b ↦ rw b (AllPairs-cons R tag (t ∷ tags) (All-cons (R tag) t tags b (All-weaker (R t) (R tag) (λ u h. before_trans tag t u b h) tags behind)) ascending)
      | inr b ↦ rw b
          (AllPairs-cons R t (with_tag tag tags)
          (All-with_tag (R t) tag tags (another b) behind)
          (ascending-with_tag tag tags rest (λ h. new (Contains-there t tags tag h))))
    ]
  where
    another : is_before tag t ≡ false → is_before t tag ≡ true
    another b = elim (cases_Bool (is_before t tag)) [
      | inl a ↦ a
      | inr a ↦ absurd (new (subst (λ (u : Moment). Contains (t ∷ tags) u) (same_moment t tag a b) (Contains-here t tags)))
    ]

-- which tags are there then
pub Contains-with_tag : (tag : Moment) (tags : List Moment) (t : Moment) → Contains tags t ⊎ (tag ≡ t) → Contains (with_tag tag tags) t
Contains-with_tag tag tags t h =
    let n = position_or_len (λ u. is_before tag u) tags in
    subst (λ (ts : List Moment). Contains ts t) (insert-place tag tags n refl) (Contains-insert tags n tag t h)

pub Contains-from_with_tag : (tag : Moment) (tags : List Moment) (t : Moment) → Contains (with_tag tag tags) t → Contains tags t ⊎ (tag ≡ t)
Contains-from_with_tag tag tags t h =
    let n = position_or_len (λ u. is_before tag u) tags in
    Contains-from_insert tags n tag t (subst (λ (ts : List Moment). Contains ts t) (sym (insert-place tag tags n refl)) h)

-- how many of them are before one
pub count-with_tag_before : (end tag : Moment) (tags : List Moment) → is_before tag end ≡ true → count_before end (with_tag tag tags) ≡ count_before end tags + 1
count-with_tag_before end tag [] h = rw h (omega arith)
count-with_tag_before end tag (t ∷ tags) h = elim (cases_Bool (is_before tag t)) [
  | inl b ↦ rw (b, h) (omega arith)
  | inr b ↦ elim (cases_Bool (is_before t end)) [
    | inl c ↦ (let e : count_before end (with_tag tag tags) ≡ count_before end tags + 1 = count-with_tag_before end tag tags h in rw (b, c) (omega arith))
    | inr c ↦ rw (b, c) (count-with_tag_before end tag tags h)
  ]
]

pub count-with_tag_behind : (end tag : Moment) (tags : List Moment) → is_before tag end ≡ false → count_before end (with_tag tag tags) ≡ count_before end tags
count-with_tag_behind end tag [] h = rw h refl
count-with_tag_behind end tag (t ∷ tags) h = elim (cases_Bool (is_before tag t)) [
  | inl b ↦ rw (b, h) refl
  | inr b ↦ elim (cases_Bool (is_before t end)) [
    | inl c ↦ rw (b, c) (ap (λ (n : ℕ). suc n) (count-with_tag_behind end tag tags h))
    | inr c ↦ rw (b, c) (count-with_tag_behind end tag tags h)
  ]
]

-- no more are before one than there are
pub count_before-le : (end : Moment) (tags : List Moment) → count_before end tags ≤ length tags
count_before-le end tags = rw (length-filter (λ t. is_before t end) tags) (count_by-le-length (λ t. is_before t end) tags)
