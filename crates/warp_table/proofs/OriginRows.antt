-- The rows of one origin in order of tags: what they say of a tag, with one more, and with one changed.
use Rattle.std.proofs.Common.{◌≡◌, ℕ, zero, suc, ◌-◌, ◌<◌, ◌≤◌, Bool, true, false, if◌then◌else◌, IsTrue, is_some, Option, Some, None, List, [], ◌∷◌, length, get_or, map, set, slice_get, inl, inr, refl, sym, ap, subst, ◌∙◌, arith}
use Rattle.std.specs.List.{All, insert}
use Rattle.std.specs.List.Sorted.{IsPartitionedBy}
use Rattle.std.proofs.lemmas.Bool.{both_ways, cases_Bool, cases_eq, false≢true}
use Rattle.std.proofs.lemmas.Bool.Decides.{nat_tests}
use Rattle.std.proofs.lemmas.List.{get_or_read}
use Rattle.std.proofs.lemmas.List.Elements.{All-head, All-tail, All-weaker}
use Rattle.std.proofs.lemmas.Option.{slice_get-get_or, slice_get_past}
use Rattle.warp_tag.specs.Moment.{Moment, is_before, is_same}
use Rattle.warp_tag.proofs.Tags.{before_trans, same_moment}
use Rattle.warp_table.specs.declared.rows.Known.{Known}
use Rattle.warp_table.specs.declared.rows.NameRow.{NameRow}
use Rattle.warp_table.specs.inner.NamesByOrigin.{AreInOrder, IsWith, row_of, row_place}
use Rattle.warp_table.proofs.Members.{AllPairs-first, AllPairs-tail}
use Rattle.warp_table.proofs.Places.{cond_apart}

-- one row is before another
abbrev Before : NameRow → NameRow → Type 0
Before a b = IsTrue (is_before a.tag b.tag)

-- tags of which one is before the other differ
before_differs : (t u : Moment) → is_before t u ≡ true → is_same t u ≡ false
before_differs t u h = grind (arith, nat_tests)

behind_differs : (t u : Moment) → is_before u t ≡ true → is_same t u ≡ false
behind_differs t u h = grind (arith, nat_tests)

-- and of two that differ one is before the other
before_else : (t u : Moment) → is_before t u ≡ false → is_same u t ≡ false → is_before u t ≡ true
before_else t u h k = grind (arith, nat_tests)

neither_same : (t u : Moment) → is_before t u ≡ false → is_before u t ≡ false → is_same u t ≡ true
neither_same t u h k = grind (arith, nat_tests)

-- Look-ups

-- rows behind a tag say nothing of it
pub none_behind : (tag : Moment) (rows : List NameRow) → All (λ r. IsTrue (is_before tag r.tag)) rows → row_of tag rows ≡ None
none_behind tag [] all = refl
none_behind tag (r ∷ rows) all =
    let here = All-head (λ (r : NameRow). IsTrue (is_before tag r.tag)) r rows all in
    rw (before_differs tag r.tag here) (none_behind tag rows (All-tail (λ (r : NameRow). IsTrue (is_before tag r.tag)) r rows all))

-- what the row at a tag's place says of the tag
abbrev pub said_by : Moment → Option NameRow → Option Known
said_by tag None = None
said_by tag (Some r) = if is_before tag r.tag then None else Some r.known

pub row_there : (tag : Moment) (rows : List NameRow) → AreInOrder rows → row_of tag rows ≡ said_by tag (slice_get rows (row_place tag rows))
row_there tag [] h = refl
row_there tag (r ∷ rows) h = elim (cases_Bool (is_before r.tag tag)) [
  | inl b ↦ rw (b, behind_differs tag r.tag b) (row_there tag rows (AllPairs-tail Before r rows h))
  | inr b ↦ elim (cases_Bool (is_before tag r.tag)) [
    | inl c ↦ rw (b, c, before_differs tag r.tag c)
        (none_behind tag rows (All-weaker (Before r) (λ (q : NameRow). IsTrue (is_before tag q.tag)) (λ q k. before_trans tag r.tag q.tag c k) rows (AllPairs-first Before r rows h)))
    | inr c ↦ rw (b, c, neither_same r.tag tag b c) refl
  ]
]

-- by the rows read
module _ (tag : Moment) (rows : List NameRow) (h : AreInOrder rows) (n : ℕ) (is : n ≡ row_place tag rows) where
  pub said_at : (r : NameRow) → n < length rows → r ≡ get_or rows n r → row_of tag rows ≡ (if is_before tag r.tag then None else Some r.known)
  said_at r within read =
      row_there tag rows h ∙ ap (λ (k : ℕ). said_by tag (slice_get rows k)) (sym is)
      ∙ ap (said_by tag) (slice_get-get_or rows n r within ∙ ap Some (sym read))

  pub none_said : length rows ≤ n → row_of tag rows ≡ None
  none_said past =
      row_there tag rows h ∙ ap (λ (k : ℕ). said_by tag (slice_get rows k)) (sym is) ∙ ap (said_by tag) (slice_get_past rows n past)

-- Places

-- the rows before a tag are a front
pub before_first : (tag : Moment) (rows : List NameRow) → AreInOrder rows → IsPartitionedBy (λ r. is_before r.tag tag) rows
before_first tag rows h = λ i j d le within before. elim (cases_eq i j) [
  | inl same ↦ subst (λ (k : ℕ). is_before (get_or rows k d).tag tag ≡ true) (sym same) before
  | inr other ↦ before_trans (get_or rows i d).tag (get_or rows j d).tag tag (h i j d (omega arith) within) before
]

pub place_is : (tag : Moment) (rows : List NameRow) (n : ℕ) → n ≤ length rows → ((k : ℕ) (d : NameRow) → k < n → is_before (get_or rows k d).tag tag ≡ true)
    → ((d : NameRow) → n < length rows → is_before (get_or rows n d).tag tag ≡ false) → n ≡ row_place tag rows
place_is tag [] n le front rest = omega arith
place_is tag (r ∷ rows) zero le front rest = rw (rest r (omega arith)) refl
place_is tag (r ∷ rows) (suc n) le front rest =
    let more : n ≡ row_place tag rows = place_is tag rows n (omega arith) (λ k d l. front (suc k) d (omega arith)) (λ d l. rest d (omega arith)) in
    rw (front 0 r (omega arith)) (omega arith)

module _ (tag : Moment) (last : NameRow) (rows : List NameRow) (h : AreInOrder rows) (some : 0 < length rows) (is : last ≡ get_or rows (length rows - 1) last) where
  last_read : (d : NameRow) → last ≡ get_or rows (length rows - 1) d
  last_read d = get_or_read rows (length rows - 1) last (omega (arith, some)) is d

  up_to_last : (k : ℕ) (d : NameRow) → k < length rows - 1 → is_before (get_or rows k d).tag last.tag ≡ true
  up_to_last k d l = subst (λ (r : NameRow). is_before (get_or rows k d).tag r.tag ≡ true) (sym (last_read d)) (h k (length rows - 1) d l (omega (arith, some)))

  -- a tag behind the last row goes to the end
  pub behind_last : is_before last.tag tag ≡ true → length rows ≡ row_place tag rows
  behind_last b = place_is tag rows (length rows) (omega arith) (λ k d l. elim (cases_eq k (length rows - 1)) [
    | inl same ↦ subst (λ (i : ℕ). is_before (get_or rows i d).tag tag ≡ true) (sym same) (subst (λ (r : NameRow). is_before r.tag tag ≡ true) (last_read d) b)
    | inr other ↦ before_trans (get_or rows k d).tag last.tag tag (up_to_last k d (omega (arith, l))) b
  ]) (λ d l. absurd (omega arith))

  -- and the last row's tag is there
  pub at_last : is_before last.tag tag ≡ false → is_before tag last.tag ≡ false → length rows - 1 ≡ row_place tag rows
  at_last b c =
      let same : last.tag ≡ tag = same_moment last.tag tag b c in
      place_is tag rows (length rows - 1) (omega arith) (λ k d l. subst (λ (t : Moment). is_before (get_or rows k d).tag t ≡ true) same (up_to_last k d l))
      (λ d l. subst (λ (r : NameRow). is_before r.tag tag ≡ false) (last_read d) b)

-- One more row

-- a row of which no other has the tag says what it says, wherever it stands
pub says_with : (row : NameRow) (rows : List NameRow) (n : ℕ) → row_of row.tag rows ≡ None → IsWith row.tag row.known rows (insert rows n row)
says_with row [] zero none = λ other. refl
says_with row [] (suc n) none = λ other. refl
says_with row (r ∷ rows) zero none = λ other. refl
says_with row (r ∷ rows) (suc n) none = λ other. elim (cases_Bool (is_same row.tag r.tag)) [
  | inl same ↦ absurd (some_none (rw same at none))
  | inr differs ↦ (
      let rest : row_of row.tag rows ≡ None = rw differs at none in
      ap (λ (k : Option Known). if is_same other r.tag then Some r.known else k) (says_with row rows n rest other)
      ∙ cond_apart (is_same other r.tag) (is_same other row.tag) (λ a b. both_ways (is_same row.tag r.tag) differs (shared other row.tag r.tag a b)) (Some row.known) (Some r.known) (row_of other rows)
      )
]
  where
    shared : (o t u : Moment) → is_same o u ≡ true → is_same o t ≡ true → is_same t u ≡ true
    shared o t u h k = grind (arith, nat_tests)

    some_none : {X : Type 0} {x : X} → Some x ≡ None → ⊥
    some_none e = cc

-- One row changed

-- at the place of a tag that is there stands its row
row_here : (tag : Moment) (rows : List NameRow) → is_some (row_of tag rows) ≡ true → AreInOrder rows → (row_place tag rows < length rows) × ((d : NameRow) → (get_or rows (row_place tag rows) d).tag ≡ tag)
row_here tag [] some h = absurd (false≢true some)
row_here tag (r ∷ rows) some h = elim (cases_Bool (is_before r.tag tag)) [
  | inl b ↦ (
      let behind : is_some (row_of tag rows) ≡ true = rw (behind_differs tag r.tag b) at some in
      let rest = row_here tag rows behind (AllPairs-tail Before r rows h) in
      rw b (omega (arith, rest.0), λ d. rest.1 d)
      )
  | inr b ↦ elim (cases_Bool (is_before tag r.tag)) [
    | inl c ↦ (
        let none : row_of tag rows ≡ None = none_behind tag rows (All-weaker (Before r) (λ (q : NameRow). IsTrue (is_before tag q.tag)) (λ q k. before_trans tag r.tag q.tag c k) rows (AllPairs-first Before r rows h)) in
        let apart = before_differs tag r.tag c in
        absurd (false≢true (sym (ap (λ b. is_some (if b then Some r.known else row_of tag rows)) apart ∙ ap (λ (k : Option Known). is_some k) none) ∙ some))
        )
    | inr c ↦ rw b (omega arith, λ d. same_moment r.tag tag b c)
  ]
]

pub row_at_place : (tag : Moment) (rows : List NameRow) → is_some (row_of tag rows) ≡ true → AreInOrder rows → (n : ℕ) → n ≡ row_place tag rows → (n < length rows) × ((d : NameRow) → (get_or rows n d).tag ≡ tag)
row_at_place tag rows some h n is =
    let here = row_here tag rows some h in
    (omega (arith, is, here.0), λ d. ap (λ k. (get_or rows k d).tag) is ∙ here.1 d)

-- a row in the place of another with its tag keeps the tags
pub tags_changed : (row : NameRow) (rows : List NameRow) (n : ℕ) → n < length rows → ((d : NameRow) → (get_or rows n d).tag ≡ row.tag) → map (λ r. r.tag) (set rows n row) ≡ map (λ r. r.tag) rows
tags_changed row [] n within same = absurd (omega (arith, within))
tags_changed row (r ∷ rows) zero within same = ap (λ t. t ∷ map (λ (q : NameRow). q.tag) rows) (sym (same r))
tags_changed row (r ∷ rows) (suc n) within same = ap (λ ts. r.tag ∷ ts) (tags_changed row rows n (omega (arith, within)) same)

-- and says what it says
pub says_changed : (row : NameRow) (rows : List NameRow) (n : ℕ) → n < length rows → ((d : NameRow) → (get_or rows n d).tag ≡ row.tag) → AreInOrder rows → IsWith row.tag row.known rows (set rows n row)
says_changed row [] n within same h = absurd (omega (arith, within))
says_changed row (r ∷ rows) zero within same h = λ other. by other (is_same other row.tag) refl
  where
    by : (other : Moment) (b : Bool) → is_same other row.tag ≡ b → (if b then Some row.known else row_of other rows) ≡ (if b then Some row.known else (if is_same other r.tag then Some r.known else row_of other rows))
    by other true is = refl
    by other false is = sym (ap (λ b. if b then Some r.known else row_of other rows) (ap (is_same other) (same r) ∙ is))
says_changed row (r ∷ rows) (suc n) within same h = λ other.
    let before : is_before r.tag row.tag ≡ true = subst (λ (t : Moment). is_before r.tag t ≡ true) (same r) (h 0 (suc n) r (omega arith) within) in
    ap (λ (k : Option Known). if is_same other r.tag then Some r.known else k) (says_changed row rows n (omega (arith, within)) (λ d. same d) (AllPairs-tail Before r rows h) other)
    ∙ cond_apart (is_same other r.tag) (is_same other row.tag) (λ a b. both_ways (is_same row.tag r.tag) (behind_differs row.tag r.tag before) (shared other row.tag r.tag a b)) (Some row.known) (Some r.known) (row_of other rows)
  where
    shared : (o t u : Moment) → is_same o u ≡ true → is_same o t ≡ true → is_same t u ≡ true
    shared o t u h k = grind (arith, nat_tests)

-- Places

-- a row of the tag stands at the tag's place
pub at_row : (tag : Moment) (rows : List NameRow) (n : ℕ) (d : NameRow) → AreInOrder rows → n < length rows → is_same (get_or rows n d).tag tag ≡ true → n ≡ row_place tag rows
at_row tag [] n d h within same = absurd (omega (arith, within))
at_row tag (r ∷ rows) zero d h within same = rw (same_not_before r.tag tag same) refl
  where
    same_not_before : (t u : Moment) → is_same t u ≡ true → is_before t u ≡ false
    same_not_before t u e = grind (arith, nat_tests)
at_row tag (r ∷ rows) (suc n) d h within same =
    let before : is_before r.tag (get_or rows n d).tag ≡ true = AllPairs-first Before r rows h n d (omega (arith, within)) in
    let own : is_before r.tag tag ≡ true = before_same r.tag (get_or rows n d).tag tag before same in
    rw own (ap (λ (m : ℕ). suc m) (at_row tag rows n d (AllPairs-tail Before r rows h) (omega (arith, within)) same))
  where
    before_same : (t u v : Moment) → is_before t u ≡ true → is_same u v ≡ true → is_before t v ≡ true
    before_same t u v b e = grind (arith, nat_tests)
