-- Tags in order in blocks, counted from the newest end: a block that does not begin before a tag has none before it, and in front of
-- one that does all are.
use Rattle.std.proofs.Common.{◌≡◌, ℕ, zero, suc, ◌+◌, ◌-◌, ◌<◌, true, false, List, [], ◌∷◌, ◌++◌, drop, take, length, get_or, inl, inr, refl, sym, ap, subst, ◌∙◌, arith}
use Rattle.std.specs.List.{All}
use Rattle.std.proofs.lemmas.Bool.{cases_eq, false≢true}
use Rattle.std.proofs.lemmas.Bool.Decides.{nat_tests}
use Rattle.std.proofs.lemmas.List.{get_or_read, length-append}
use Rattle.std.proofs.lemmas.List.Elements.{All-cons, All-head, All-tail, All-weaker, filter-append}
use Rattle.warp_tag.specs.Moment.{Moment, is_before}
use Rattle.warp_table.specs.inner.Blocks.{AreOrdered, begins_before, flat}
use Rattle.warp_table.specs.inner.Heard.{count_before}
use Rattle.warp_table.proofs.BlockLists.{block_ordered, front_of, parted, passing_next}
use Rattle.warp_table.proofs.Members.{AllPairs-first}

module _ (tag : Moment) where
  count_all : (tags : List Moment) → All (λ t. is_before t tag ≡ true) tags → count_before tag tags ≡ length tags
  count_all [] h = refl
  count_all (t ∷ tags) h =
      rw (All-head (λ u. is_before u tag ≡ true) t tags h) (ap (λ (n : ℕ). suc n) (count_all tags (All-tail (λ u. is_before u tag ≡ true) t tags h)))

  count_none : (tags : List Moment) → All (λ t. is_before t tag ≡ false) tags → count_before tag tags ≡ 0
  count_none [] h = refl
  count_none (t ∷ tags) h = rw (All-head (λ u. is_before u tag ≡ false) t tags h) (count_none tags (All-tail (λ u. is_before u tag ≡ false) t tags h))

  count_both : (xs ys : List Moment) → count_before tag (xs ++ ys) ≡ count_before tag xs + count_before tag ys
  count_both xs ys = ap (λ (l : List Moment). length l) (filter-append (λ t. is_before t tag) xs ys) ∙ length-append _ _

  -- where the first is not before the tag, none is
  count_begun : (tags : List Moment) → AreOrdered (λ t. t) tags → begins_before tag tags ≡ false → count_before tag tags ≡ 0
  count_begun [] ordered first = refl
  count_begun (t ∷ tags) ordered first =
      count_none (t ∷ tags)
      (All-cons (λ u. is_before u tag ≡ false) t tags first
      (All-weaker (λ u. is_before u t ≡ false) (λ u. is_before u tag ≡ false) (λ u k. later u k) tags (AllPairs-first (λ a b. is_before b a ≡ false) t tags ordered)))
    where
      later : (u : Moment) → is_before u t ≡ false → is_before u tag ≡ false
      later u k = grind (arith, nat_tests)

  begun_with : (tags : List Moment) → begins_before tag tags ≡ true → (t : Moment) × (rest : List Moment) × (tags ≡ t ∷ rest)
  begun_with [] first = absurd (false≢true first)
  begun_with (t ∷ tags) first = (t, tags, refl)

  earlier : (t u : Moment) → is_before t u ≡ false → is_before t tag ≡ true → is_before u tag ≡ true
  earlier t u k b = grind (arith, nat_tests)

  -- up to a last one that is before the tag all are
  pub count_whole : (tags : List Moment) (last : Moment) → 0 < length tags → last ≡ get_or tags (length tags - 1) last → AreOrdered (λ t. t) tags → is_before last tag ≡ true → count_before tag tags ≡ length tags
  count_whole tags last some read ordered before = count_all tags (λ k d l. elim (cases_eq k (length tags - 1)) [
    | inl same ↦ rw same (at_last d)
    | inr other ↦ earlier (get_or tags (length tags - 1) d) (get_or tags k d) (ordered k (length tags - 1) d (omega arith) (omega (arith, some))) (at_last d)
  ])
    where
      at_last : (d : Moment) → is_before (get_or tags (length tags - 1) d) tag ≡ true
      at_last d = subst (λ (t : Moment). is_before t tag ≡ true) (get_or_read tags (length tags - 1) last (omega (arith, some)) read d) before

  module _ {B : Type 0} (items : B → List Moment) where
    -- behind a block that does not begin before the tag none is, and in it none
    pub behind_next : (bs : List B) (n : ℕ) (d : B) → n < length bs → AreOrdered (λ t. t) (flat items bs) → begins_before tag (items (get_or bs n d)) ≡ false
        → count_before tag (flat items (drop (suc n) bs)) ≡ 0 → count_before tag (flat items (drop n bs)) ≡ 0
    behind_next bs n d within ordered first rest =
        let here : count_before tag (items (get_or bs n d)) ≡ 0 = count_begun (items (get_or bs n d)) (block_ordered items (λ t. t) bs n d within ordered) first in
        let next : count_before tag (flat items (drop n bs)) ≡ count_before tag (items (get_or bs n d)) + count_before tag (flat items (drop (suc n) bs)) =
        passing_next items (λ t. is_before t tag) bs n d within in
        omega (arith, here, next, rest)

    -- so many stand in a front of one block more
    pub front_next : (bs : List B) (n : ℕ) (d : B) → n < length bs → length (flat items (take (suc n) bs)) ≡ length (flat items (take n bs)) + length (items (get_or bs n d))
    front_next [] n d within = absurd (omega (arith, within))
    front_next (b ∷ bs) zero d within = (let e : length (items b ++ []) ≡ length (items b) + 0 = length-append (items b) [] in omega (arith, e))
    front_next (b ∷ bs) (suc n) d within =
        let more : length (items b ++ flat items (take (suc n) bs)) ≡ length (items b) + length (flat items (take (suc n) bs)) = length-append (items b) (flat items (take (suc n) bs)) in
        let less : length (items b ++ flat items (take n bs)) ≡ length (items b) + length (flat items (take n bs)) = length-append (items b) (flat items (take n bs)) in
        let rest : length (flat items (take (suc n) bs)) ≡ length (flat items (take n bs)) + length (items (get_or bs n d)) = front_next bs n d (omega (arith, within)) in
        omega (arith, more, less, rest)

    -- where a block begins before the tag, all in front of it are before it too
    pub found_in : (bs : List B) (n : ℕ) (d : B) → n < length bs → AreOrdered (λ t. t) (flat items bs) → begins_before tag (items (get_or bs n d)) ≡ true
        → count_before tag (flat items (drop (suc n) bs)) ≡ 0 → count_before tag (flat items bs) ≡ length (flat items (take n bs)) + count_before tag (items (get_or bs n d))
    found_in bs n d within ordered first rest =
        let front = flat items (take n bs) in
        let own = items (get_or bs n d) in
        let back = flat items (drop (suc n) bs) in
        let begun = begun_with own first in
        let at : is_before begun.0 tag ≡ true = sym (ap (begins_before tag) begun.2) ∙ first in
        let all : All (λ t. is_before t tag ≡ true) front =
        All-weaker (λ t. is_before begun.0 t ≡ false) (λ t. is_before t tag ≡ true) (λ t k. earlier begun.0 t k at) front
        (front_of items (λ a b. is_before b a ≡ false) bs n d begun.0 begun.1 within ordered begun.2) in
        let whole : count_before tag front ≡ length front = count_all front all in
        let one : count_before tag (flat items bs) ≡ count_before tag front + count_before tag (own ++ back) = ap (count_before tag) (parted items bs n d within) ∙ count_both front (own ++ back) in
        let two : count_before tag (own ++ back) ≡ count_before tag own + count_before tag back = count_both own back in
        omega (arith, whole, one, two, rest)
