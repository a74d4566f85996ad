-- Names in the order of their first coming, each with what is known of it: look-ups, with one more, and with one changed.
use Rattle.std.proofs.Common.{◌≡◌, ℕ, zero, suc, ◌<◌, ◌≤◌, ◌==◌, ◌&&◌, Bool, true, false, if◌then◌else◌, is_some, Option, Some, None, List, [], ◌∷◌, ◌++◌, length, get_or, set, slice_get, Result, Ok, Err, inl, inr, refl, sym, ap, subst, ◌∙◌, arith}
use Rattle.std.specs.Map.{lookup}
use Rattle.std.specs.Option.{option_map, unwrap_or}
use Rattle.std.specs.Prelude.{OnErr}
use Rattle.std.proofs.lemmas.Bool.{both_ways, cases_Bool, cases_eq, cases_lt, false≢true, false_from_ne_true}
use Rattle.std.proofs.lemmas.Bool.Decides.{Decides-eqb}
use Rattle.std.proofs.lemmas.List.{get_or-set_other, get_or-set_same, get_or_past, get_or_read}
use Rattle.std.proofs.lemmas.Option.{slice_get-get_or, slice_get-map}
use Rattle.warp_tag.specs.Moment.{is_same}
use Rattle.warp_table.specs.declared.names.Name.{Name}
use Rattle.warp_table.specs.declared.rows.Known.{Known}
use Rattle.warp_table.specs.declared.rows.NameRow.{NameRow}
use Rattle.warp_table.specs.inner.Kept.{is_named, nothing_known, put_known}
use Rattle.warp_table.specs.inner.NamesByOrigin.{AreListed, IsWith, known_in, listed, row_of, rows_at, times_in}
use Rattle.warp_table.proofs.FirstNames.{named-Decides}

-- one of each name of which something is known
abbrev once : Option Known → ℕ
once known = if is_some known then 1 else 0

named_self : (name : Name) → is_named name.origin name.tag name ≡ true
named_self name = (named-Decides name name).1 refl

other_way : (a b : Name) → is_named a.origin a.tag b ≡ false → is_named b.origin b.tag a ≡ false
other_way a b differs = false_from_ne_true (is_named b.origin b.tag a) (λ h. both_ways (is_named a.origin a.tag b) differs ((named-Decides a b).1 (sym ((named-Decides b a).0 h))))

-- Look-ups

absent : (known : Name → Option Known) (name : Name) (order : List Name) → times_in name order ≡ 0 → lookup (is_named name.origin name.tag) (listed known order) ≡ None
absent known name [] none = refl
absent known name (n ∷ order) none = elim (cases_Bool (is_named name.origin name.tag n)) [
  | inl same ↦ absurd (let some = rw same at none in omega (arith, some))
  | inr other ↦ (let rest : times_in name order ≡ 0 = rw other at none in rw other (absent known name order rest))
]

present : (known : Name → Option Known) (name : Name) (order : List Name) → times_in name order ≡ 1 → lookup (is_named name.origin name.tag) (listed known order) ≡ Some (unwrap_or (known name) nothing_known)
present known name [] one = absurd (omega (arith, one))
present known name (n ∷ order) one = elim (cases_Bool (is_named name.origin name.tag n)) [
  | inl same ↦ rw same (ap (λ (m : Name). Some (unwrap_or (known m) nothing_known)) (sym ((named-Decides name n).0 same)))
  | inr other ↦ (let rest : times_in name order ≡ 1 = rw other at one in rw other (present known name order rest))
]

pub looked_up : (known : Name → Option Known) (order : List Name) → AreListed known order → (name : Name) → lookup (is_named name.origin name.tag) (listed known order) ≡ known name
looked_up known order h name = by (known name) refl
  where
    by : (k : Option Known) → known name ≡ k → lookup (is_named name.origin name.tag) (listed known order) ≡ k
    by None is = absent known name order (h name ∙ ap once is)
    by (Some k) is = present known name order (h name ∙ ap once is) ∙ ap (λ (o : Option Known). Some (unwrap_or o nothing_known)) is

-- a name that stands at a place is known
times_at : (order : List Name) (i : ℕ) (name : Name) → i < length order → name ≡ get_or order i name → 1 ≤ times_in name order
times_at [] i name within is = absurd (omega (arith, within))
times_at (n ∷ order) zero name within is = rw (subst (λ (m : Name). is_named name.origin name.tag m ≡ true) is (named_self name)) (omega arith)
times_at (n ∷ order) (suc i) name within is =
    let rest : 1 ≤ times_in name order = times_at order i name (omega (arith, within)) is in
    elim (cases_Bool (is_named name.origin name.tag n)) [
      | inl same ↦ rw same (omega arith)
      | inr other ↦ rw other rest
    ]

module _ (known : Name → Option Known) (order : List Name) (h : AreListed known order) (i : ℕ) (name : Name) (within : i < length order) (is : name ≡ get_or order i name) where
  pub known_at : is_some (known name) ≡ true
  known_at = elim (cases_Bool (is_some (known name))) [
    | inl some ↦ some
    | inr none ↦ absurd (
        let times : times_in name order ≡ 0 = h name ∙ ap (λ b. if b then 1 else 0) none in
        let some : 1 ≤ times_in name order = times_at order i name within is in
        omega (arith, times, some))
  ]

  pub listed_at : (k : Known) → known name ≡ Some k → Some (name, k) ≡ slice_get (listed known order) i
  listed_at k is_k =
      let with_known : Name → Name × Known = λ n. (n, unwrap_or (known n) nothing_known) in
      sym (slice_get-map with_known order i ∙ ap (option_map with_known) (slice_get-get_or order i name within ∙ ap Some (sym is)) ∙ ap (λ (o : Option Known). Some (name, unwrap_or o nothing_known)) is_k)

-- One more name, or more known of one

module _ (known now : Name → Option Known) (name : Name) (k : Known) (change : (m : Name) → now m ≡ (if is_named m.origin m.tag name then Some k else known m)) where
  its_own : (m : Name) → is_named m.origin m.tag name ≡ true → now m ≡ Some k
  its_own m same = change m ∙ ap (λ b. if b then Some k else known m) same

  others : (m : Name) → is_named m.origin m.tag name ≡ false → now m ≡ known m
  others m differs = change m ∙ ap (λ b. if b then Some k else known m) differs

  unchanged : (order : List Name) → times_in name order ≡ 0 → listed now order ≡ listed known order
  unchanged [] none = refl
  unchanged (n ∷ order) none = elim (cases_Bool (is_named name.origin name.tag n)) [
    | inl same ↦ absurd (let some = rw same at none in omega (arith, some))
    | inr other ↦ (
        let rest : times_in name order ≡ 0 = rw other at none in
        let here = others n (other_way name n other) in
        let more = unchanged order rest in
        λ i. (n, unwrap_or (here i) nothing_known) ∷ more i
        )
  ]

  put_last : (order : List Name) → times_in name order ≡ 0 → listed now (order ++ name ∷ []) ≡ put_known (listed known order) name k
  put_last [] none = ap (λ (o : Option Known). (name, unwrap_or o nothing_known) ∷ []) (its_own name (named_self name))
  put_last (n ∷ order) none = elim (cases_Bool (is_named name.origin name.tag n)) [
    | inl same ↦ absurd (let some = rw same at none in omega (arith, some))
    | inr other ↦ (
        let rest : times_in name order ≡ 0 = rw other at none in
        let here = others n (other_way name n other) in
        let more = put_last order rest in
        rw other (λ i. (n, unwrap_or (here i) nothing_known) ∷ more i)
        )
  ]

  put_there : (order : List Name) → times_in name order ≡ 1 → listed now order ≡ put_known (listed known order) name k
  put_there [] one = absurd (omega (arith, one))
  put_there (n ∷ order) one = elim (cases_Bool (is_named name.origin name.tag n)) [
    | inl same ↦ (
        let both : suc (times_in name order) ≡ 1 = rw same at one in
        let here = its_own n ((named-Decides n name).1 (sym ((named-Decides name n).0 same))) in
        let more = unchanged order (omega (arith, both)) in
        rw same (λ i. (n, unwrap_or (here i) nothing_known) ∷ more i)
        )
    | inr other ↦ (
        let rest : times_in name order ≡ 1 = rw other at one in
        let here = others n (other_way name n other) in
        let more = put_there order rest in
        rw other (λ i. (n, unwrap_or (here i) nothing_known) ∷ more i)
        )
  ]

  times_more : (m : Name) (order : List Name) → times_in m (order ++ name ∷ []) ≡ (if is_named m.origin m.tag name then suc (times_in m order) else times_in m order)
  times_more m [] = refl
  times_more m (n ∷ order) = by (is_named m.origin m.tag n) (is_named m.origin m.tag name) (times_in m (order ++ name ∷ [])) (times_in m order) (times_more m order)
    where
      by : (here last : Bool) (all some : ℕ) → all ≡ (if last then suc some else some) → (if here then suc all else all) ≡ (if last then suc (if here then suc some else some) else (if here then suc some else some))
      by true true all some h = ap suc h
      by true false all some h = ap suc h
      by false true all some h = h
      by false false all some h = h

  module _ (order : List Name) (h : AreListed known order) where
    -- a name that was not there comes last
    pub listed_more : known name ≡ None → listed now (order ++ name ∷ []) ≡ put_known (listed known order) name k
    listed_more new = put_last order (h name ∙ ap once new)

    pub are_listed_more : known name ≡ None → AreListed now (order ++ name ∷ [])
    are_listed_more new m = times_more m order ∙ elim (cases_Bool (is_named m.origin m.tag name)) [
      | inl same ↦ (
          let none : times_in m order ≡ 0 = h m ∙ ap (λ (n : Name). once (known n)) ((named-Decides m name).0 same) ∙ ap once new in
          ap (λ b. if b then suc (times_in m order) else times_in m order) same ∙ ap suc none ∙ sym (ap once (its_own m same))
          )
      | inr differs ↦ ap (λ b. if b then suc (times_in m order) else times_in m order) differs ∙ h m ∙ sym (ap once (others m differs))
    ]

    -- and one that was there stays in its place
    pub listed_changed : is_some (known name) ≡ true → listed now order ≡ put_known (listed known order) name k
    listed_changed there = put_there order (h name ∙ ap (λ b. if b then 1 else 0) there)

    pub are_listed_changed : is_some (known name) ≡ true → AreListed now order
    are_listed_changed there m = h m ∙ elim (cases_Bool (is_named m.origin m.tag name)) [
      | inl same ↦ ap (λ (n : Name). once (known n)) ((named-Decides m name).0 same) ∙ ap (λ b. if b then 1 else 0) there ∙ sym (ap once (its_own m same))
      | inr differs ↦ sym (ap once (others m differs))
    ]

-- Rows of origins

-- the rows of a name's origin changed
pub known_changed : (origins : List (List NameRow)) (name : Name) (k : Known) (rows : List NameRow) → name.origin < length origins → IsWith name.tag k (rows_at origins name.origin) rows →
    (m : Name) → known_in (set origins name.origin rows) m ≡ (if is_named m.origin m.tag name then Some k else known_in origins m)
known_changed origins name k rows within with m = elim (cases_eq m.origin name.origin) [
  | inl same ↦
      ap (λ (o : ℕ). row_of m.tag (rows_at (set origins name.origin rows) o)) same ∙ ap (row_of m.tag) (get_or-set_same origins name.origin rows [] within) ∙ with m.tag
      ∙ ap (λ (o : ℕ). if is_same m.tag name.tag then Some k else row_of m.tag (rows_at origins o)) (sym same)
      ∙ ap (λ b. if b && is_same m.tag name.tag then Some k else known_in origins m) (sym ((Decides-eqb m.origin name.origin).1 same))
  | inr other ↦
      ap (row_of m.tag) (get_or-set_other origins name.origin m.origin rows [] other)
      ∙ ap (λ b. if b && is_same m.tag name.tag then Some k else known_in origins m) (sym (false_from_ne_true (m.origin == name.origin) (λ e. other ((Decides-eqb m.origin name.origin).0 e))))
]

-- past the last origin nothing is known
pub known_past : (origins : List (List NameRow)) (name : Name) → length origins ≤ name.origin → known_in origins name ≡ None
known_past origins name past = ap (row_of name.tag) (get_or_past origins name.origin [] past)

known_within : (origins : List (List NameRow)) (name : Name) → is_some (known_in origins name) ≡ true → name.origin < length origins
known_within origins name some = elim (cases_lt name.origin (length origins)) [
  | inl within ↦ within
  | inr past ↦ absurd (false≢true (sym (ap (λ (k : Option Known). is_some k) (known_past origins name past)) ∙ some))
]

-- an origin's rows put back change nothing
pub set_back : (origins : List (List NameRow)) (origin : ℕ) (rows : List NameRow) → origin < length origins → rows ≡ get_or origins origin rows → (other : ℕ) → rows_at (set origins origin rows) other ≡ rows_at origins other
set_back origins origin rows within is other = elim (cases_eq other origin) [
  | inl same ↦ ap (rows_at (set origins origin rows)) same ∙ get_or-set_same origins origin rows [] within ∙ get_or_read origins origin rows within is [] ∙ ap (rows_at origins) (sym same)
  | inr differs ↦ get_or-set_other origins origin other rows [] differs
]

-- an error leaves what it leaves
pub on_err : {T E P : Type 0} (result : Result T E) → P → OnErr result P
on_err (Ok value) p = tt
on_err (Err e) p = p

-- The list of the names, before and after

module _ (origins : List (List NameRow)) (order : List Name) (view : List (Name × Known)) (is : listed (known_in origins) order ≡ view) (h : AreListed (known_in origins) order) where
  pub found_in : (name : Name) → lookup (is_named name.origin name.tag) view ≡ known_in origins name
  found_in name = ap (λ (es : List (Name × Known)). lookup (is_named name.origin name.tag) es) (sym is) ∙ looked_up (known_in origins) order h name

  -- with the same rows nothing changes
  module _ (now : List (List NameRow)) (same : (other : ℕ) → rows_at now other ≡ rows_at origins other) where
    known_same : (name : Name) → known_in now name ≡ known_in origins name
    known_same name = ap (row_of name.tag) (same name.origin)

    pub kept_listed : AreListed (known_in now) order
    kept_listed name = h name ∙ sym (ap once (known_same name))

    pub kept_is : listed (known_in now) order ≡ view
    kept_is = (λ i. listed (λ name. known_same name i) order) ∙ is

  module _ (name : Name) (row : List NameRow) where
    module _ (there : is_some (lookup (is_named name.origin name.tag) view) ≡ true) where
      is_there : is_some (known_in origins name) ≡ true
      is_there = ap (λ (k : Option Known). is_some k) (sym (found_in name)) ∙ there

      pub set_within : name.origin < length origins
      set_within = known_within origins name is_there

      module _ (read : row ≡ get_or origins name.origin row) where
        row_is : row ≡ rows_at origins name.origin
        row_is = get_or_read origins name.origin row set_within read []

        pub set_there : is_some (row_of name.tag row) ≡ true
        set_there = ap (λ (rows : List NameRow). is_some (row_of name.tag rows)) row_is ∙ is_there

        module _ (k : Known) (after : List NameRow) (with : IsWith name.tag k row after) where
          change : (m : Name) → known_in (set origins name.origin after) m ≡ (if is_named m.origin m.tag name then Some k else known_in origins m)
          change = known_changed origins name k after set_within (subst (λ (rows : List NameRow). IsWith name.tag k rows after) row_is with)

          pub set_listed : AreListed (known_in (set origins name.origin after)) order
          set_listed = are_listed_changed (known_in origins) (known_in (set origins name.origin after)) name k change order h is_there

          pub set_is : listed (known_in (set origins name.origin after)) order ≡ put_known view name k
          set_is = listed_changed (known_in origins) (known_in (set origins name.origin after)) name k change order h is_there ∙ ap (λ (es : List (Name × Known)). put_known es name k) is

    module _ (new : lookup (is_named name.origin name.tag) view ≡ None) (within : name.origin < length origins) (read : row ≡ get_or origins name.origin row) where
      is_new : known_in origins name ≡ None
      is_new = sym (found_in name) ∙ new

      own_row : row ≡ rows_at origins name.origin
      own_row = get_or_read origins name.origin row within read []

      pub insert_new : row_of name.tag row ≡ None
      insert_new = ap (row_of name.tag) own_row ∙ is_new

      module _ (k : Known) (after : List NameRow) (with : IsWith name.tag k row after) where
        more : (m : Name) → known_in (set origins name.origin after) m ≡ (if is_named m.origin m.tag name then Some k else known_in origins m)
        more = known_changed origins name k after within (subst (λ (rows : List NameRow). IsWith name.tag k rows after) own_row with)

        pub insert_listed : AreListed (known_in (set origins name.origin after)) (order ++ name ∷ [])
        insert_listed = are_listed_more (known_in origins) (known_in (set origins name.origin after)) name k more order h is_new

        pub insert_is : listed (known_in (set origins name.origin after)) (order ++ name ∷ []) ≡ put_known view name k
        insert_is = listed_more (known_in origins) (known_in (set origins name.origin after)) name k more order h is_new ∙ ap (λ (es : List (Name × Known)). put_known es name k) is
