-- The names of a log, sorted, are its table.
use Rattle.std.proofs.Common.{◌≡◌, inl, inr, ℕ, zero, suc, ◌+◌, ◌<◌, ◌≤◌, Bool, true, false, cond, List, [], ◌∷◌, All, Contains, get_or, length, map, Option, Some, None, refl, sym, add-one, ap, subst, ◌∙◌, arith}
use Rattle.std.specs.Prelude.{AllPairs, ◌≢◌, ◌==◌, ◌&&◌, ◌||◌, nat_lt}
use Rattle.std.specs.Ordering.{is_lt, nat_cmp, ordering_then}
use Rattle.std.specs.List.{sum_by}
use Rattle.std.specs.List.Sorted.{IsPermutation}
use Rattle.std.proofs.lemmas.Bool.{cases_Bool}
use Rattle.std.proofs.lemmas.List.Elements.{All-contains}
use Rattle.std.proofs.lemmas.List.Sums.{sum_by-cons}
use Rattle.std.proofs.lemmas.List.Sorted.{All-permutation, Contains-permutation, sum_by-IsPermutation}
use Rattle.warp_tag.specs.Moment.{Moment}
use Rattle.warp_tag.specs.declared.entry.Entry.{Entry}
use Rattle.warp_tag.specs.Table.{IsTable, has_name, known, name_before}
use Rattle.warp_tag.proofs.Known.{known_here, known_past, named_self, same_table}
use Rattle.warp_tag.proofs.Names.{Above, behind, name_before_trans, named_is}
use Rattle.warp_record.specs.declared.record.Record.{Record}
use Rattle.warp_table.specs.Names.{Tells}
use Rattle.warp_table.specs.Records.{set_of}
use Rattle.warp_table.specs.LogNames.{names_of, table_of}
use Rattle.warp_table.proofs.ListedNames.{names_each}
use Rattle.warp_table.proofs.Members.{AllPairs-tail, Contains-cases, Contains-from_map, Contains-here, Contains-map, Contains-nil, Contains-there}
use Rattle.warp_table.proofs.Orders.{AllPairs-head}
use Rattle.warp_table.proofs.Told.{is_table, known_by_set, told_once}

-- the name of an entry
abbrev pub name_of : Entry → ℕ × Moment
name_of e = (e.origin, e.tag)

-- what the set of a log tells of each of these
abbrev pub AreTold : List Record → List Entry → Type 0
AreTold records names = All (λ (e : Entry). Tells (set_of records) e.origin e.tag (Some e)) names

-- ---- how often a name stands in a list

abbrev hit : ℕ → Moment → Entry → ℕ
hit o t e = cond (has_name o t e) 1 0

abbrev hits : ℕ → Moment → List Entry → ℕ
hits o t es = sum_by (hit o t) es

hits-cons : (o : ℕ) (t : Moment) (e : Entry) (es : List Entry) → hits o t (e ∷ es) ≡ hit o t e + hits o t es
hits-cons o t e es = sum_by-cons (hit o t) e es

none_hit : (o : ℕ) (t : Moment) (es : List Entry) → ((d : Entry) → Contains es d → has_name o t d ≡ false) → hits o t es ≡ 0
none_hit o t [] h = refl
none_hit o t (e ∷ es) h =
    let here : hit o t e ≡ 0 = ap (λ b. cond b 1 0) (h e (Contains-here e es)) in
    let rest = none_hit o t es (λ d has. h d (Contains-there e es d has)) in
    omega (arith, hits-cons o t e es, here, rest)

at_most_one : (o : ℕ) (t : Moment) (b : Bool) → cond b 1 0 ≤ 1
at_most_one o t true = omega arith
at_most_one o t false = omega arith

-- a name that stands once is hit once
pub hit_once : (o : ℕ) (t : Moment) (es : List Entry) → AllPairs (λ a b. a ≢ b) (map name_of es) → hits o t es ≤ 1
hit_once o t [] pairs = omega arith
hit_once o t (e ∷ es) pairs = elim (cases_Bool (has_name o t e)) [
  | inl named ↦
      let none = none_hit o t es (λ d has. elim (cases_Bool (has_name o t d)) [
        | inl also ↦
            let mine = named_is o t e named in
            let its = named_is o t d also in
            let same : name_of e ≡ name_of d = λ i. ((sym mine.0 ∙ its.0) i, (sym mine.1 ∙ its.1) i) in
            absurd (AllPairs-head (λ a b. a ≢ b) (name_of e) (map name_of es) pairs (name_of d) (Contains-map name_of es d has) same)
        | inr other ↦ other
      ]) in
      omega (arith, hits-cons o t e es, none, at_most_one o t (has_name o t e))
  | inr other ↦
      let here : hit o t e ≡ 0 = ap (λ b. cond b 1 0) other in
      omega (arith, hits-cons o t e es, here, hit_once o t es (AllPairs-tail (λ a b. a ≢ b) (name_of e) (map name_of es) pairs))
]

-- two that stand one behind the other with one name are two hits
two_hits : (o : ℕ) (t : Moment) (es : List Entry) (k : ℕ) (d : Entry) → suc k < length es → has_name o t (get_or es k d) ≡ true → has_name o t (get_or es (suc k) d) ≡ true → 2 ≤ hits o t es
two_hits o t [] k d within one two = absurd (omega arith)
two_hits o t (e ∷ []) k d within one two = absurd (omega arith)
two_hits o t (e ∷ b ∷ es) zero d within one two =
    let first : hit o t e ≡ 1 = ap (λ x. cond x 1 0) one in
    let second : hit o t b ≡ 1 = ap (λ x. cond x 1 0) two in
    omega (arith, hits-cons o t e (b ∷ es), hits-cons o t b es, first, second)
two_hits o t (e ∷ b ∷ es) (suc k) d within one two =
    omega (arith, hits-cons o t e (b ∷ es), two_hits o t (b ∷ es) k d (omega arith) one two)

-- ---- each before the next is a table

abbrev Rises : List Entry → Type 0
Rises es = (k : ℕ) (d : Entry) → suc k < length es → name_before (get_or es k d).origin (get_or es k d).tag (get_or es (suc k) d) ≡ true

above_head : (e d : Entry) (es : List Entry) → name_before e.origin e.tag d ≡ true → Above d.origin d.tag es → Above e.origin e.tag es
above_head e d [] before above = tt
above_head e d (c ∷ es) before above = (name_before_trans e.origin e.tag d c before above.0, above_head e d es before above.1)

table_rises : (es : List Entry) → Rises es → IsTable es
table_rises [] rises = tt
table_rises (e ∷ []) rises = (tt, tt)
table_rises (e ∷ d ∷ es) rises =
    let rest : IsTable (d ∷ es) = table_rises (d ∷ es) (λ k x within. rises (suc k) x (omega arith)) in
    let first : name_before e.origin e.tag d ≡ true = rises 0 e (omega arith) in
    ((first, above_head e d es first rest.0), rest)

-- no name is before the one in front of it
abbrev pub NoneFalls : List Entry → Type 0
NoneFalls es = (k : ℕ) (d : Entry) → k + 1 < length es → name_before (get_or es (k + 1) d).origin (get_or es (k + 1) d).tag (get_or es k d) ≡ false

-- of two names of which neither is the other nor comes first the other comes first
turned_named : (e d : Entry) → has_name e.origin e.tag d ≡ false → name_before d.origin d.tag e ≡ false → name_before e.origin e.tag d ≡ true
turned_named e d other not_first = behind e.origin e.tag d not_first other

rises : (xs ys : List Entry) → AllPairs (λ a b. a ≢ b) (map name_of xs) → IsPermutation xs ys → NoneFalls ys → Rises ys
rises xs ys pairs moved falls k d within =
    let a = get_or ys k d in
    let b = get_or ys (suc k) d in
    let not_first : name_before b.origin b.tag a ≡ false = subst (λ n. name_before (get_or ys n d).origin (get_or ys n d).tag a ≡ false) (add-one k) (falls k d (omega (arith, within))) in
    elim (cases_Bool (has_name a.origin a.tag b)) [
      | inl same ↦
          let two = two_hits a.origin a.tag ys k d within (named_self a) same in
          let one = hit_once a.origin a.tag xs pairs in
          absurd (omega (arith, two, one, sum_by-IsPermutation (hit a.origin a.tag) xs ys moved))
      | inr other ↦ turned_named a b other not_first
    ]

-- ---- what such a list knows

found : (o : ℕ) (t : Moment) (es : List Entry) (e : Entry) → known o t es ≡ Some e → Contains es e × (has_name o t e ≡ true)
found o t [] e is = cc
found o t (d ∷ es) e is = elim (cases_Bool (has_name o t d)) [
  | inl here ↦
      let at : Some d ≡ Some e = sym (known_here o t d es here) ∙ is in
      let same : d ≡ e = cc in
      (subst (λ x. Contains (d ∷ es) x) same (Contains-here d es), subst (λ x. has_name o t x ≡ true) same here)
  | inr past ↦
      let rest = found o t es e (sym (known_past o t d es past) ∙ is) in
      (Contains-there d es e rest.0, rest.1)
]

missed : (o : ℕ) (t : Moment) (es : List Entry) (e : Entry) → known o t es ≡ None → Contains es e → has_name o t e ≡ true → ⊥
missed o t [] e is has named = Contains-nil e has
missed o t (d ∷ es) e is has named = elim (cases_Bool (has_name o t d)) [
  | inl here ↦ let at : Some d ≡ None = sym (known_here o t d es here) ∙ is in cc
  | inr past ↦ elim (Contains-cases d es e has) [
    | inl same ↦ let no : true ≡ false = sym named ∙ ap (has_name o t) (sym same) ∙ past in cc
    | inr there ↦ missed o t es e (sym (known_past o t d es past) ∙ is) there named
  ]
]

-- what the set tells of a name is among the names
all_there : (records : List Record) (xs : List Entry) → map name_of xs ≡ names_of records → AreTold records xs
    → (o : ℕ) (t : Moment) (e : Entry) → Tells (set_of records) o t (Some e) → Contains xs e
all_there records xs named told o t e tells =
    let has = subst (λ (l : List (ℕ × Moment)). Contains l (o, t)) (sym named) ((names_each records o t).1 tells.some) in
    let one = Contains-from_map name_of xs (o, t) has in
    let its = All-contains (λ (x : Entry). Tells (set_of records) x.origin x.tag (Some x)) xs one.0 told one.1 in
    let same : Some one.0 ≡ Some e = told_once (set_of records) o t (Some one.0) (Some e)
    (subst (λ (n : ℕ × Moment). Tells (set_of records) n.0 n.1 (Some one.0)) one.2 its) tells in
    let is : one.0 ≡ e = cc in
    subst (Contains xs) is one.1

module _ (records : List Record) (xs ys : List Entry) (named : map name_of xs ≡ names_of records) (told : AreTold records xs) (moved : IsPermutation xs ys) where
  told_here : AreTold records ys
  told_here = All-permutation (λ (e : Entry). Tells (set_of records) e.origin e.tag (Some e)) xs ys moved told

  knows_by : (o : ℕ) (t : Moment) (mine its : Option Entry) → known o t ys ≡ mine → known o t (table_of records) ≡ its → mine ≡ its
  knows_by o t (Some e) its is at =
      let here = found o t ys e is in
      let its_name = named_is o t e here.1 in
      let tells = All-contains (λ (x : Entry). Tells (set_of records) x.origin x.tag (Some x)) ys e told_here here.0 in
      told_once (set_of records) o t (Some e) its
      (subst (λ u. Tells (set_of records) o u (Some e)) (sym its_name.1) (subst (λ p. Tells (set_of records) p e.tag (Some e)) (sym its_name.0) tells))
      (subst (λ k. Tells (set_of records) o t k) at (known_by_set records o t))
  knows_by o t None None is at = refl
  knows_by o t None (Some e) is at =
      let tells : Tells (set_of records) o t (Some e) = subst (λ k. Tells (set_of records) o t k) at (known_by_set records o t) in
      let there = Contains-permutation xs ys e moved (all_there records xs named told o t e tells) in
      let named_e : has_name o t e ≡ true =
      subst (λ u. has_name o u e ≡ true) tells.tag_is (subst (λ p. has_name p e.tag e ≡ true) tells.origin_is (named_self e)) in
      absurd (missed o t ys e is there named_e)

  pub sorted_table : AllPairs (λ a b. a ≢ b) (names_of records) → NoneFalls ys → ys ≡ table_of records
  sorted_table once falls =
      let pairs = subst (λ (l : List (ℕ × Moment)). AllPairs (λ a b. a ≢ b) l) (sym named) once in
      same_table ys (table_of records) (table_rises ys (rises xs ys pairs moved falls)) (is_table records)
      (λ o t. knows_by o t (known o t ys) (known o t (table_of records)) refl refl)

-- ---- three numbers in turn

-- what a sort by three numbers asks is the order of names
pub by_three : (a b c x y z : ℕ) → is_lt (ordering_then (ordering_then (nat_cmp a x) (nat_cmp b y)) (nat_cmp c z))
    ≡ ((nat_lt a x || (a == x && nat_lt b y)) || ((a == x && b == y) && nat_lt c z))
by_three a b c x y z = elim (cases_Bool (nat_lt a x)) [
  | inl less ↦ rw less refl
  | inr not_less ↦ elim (cases_Bool (a == x)) [
    | inl same ↦ rw (not_less, same) (by_two b c y z)
    | inr other ↦ rw (not_less, other) refl
  ]
]
  where
    by_one : (c z : ℕ) → is_lt (nat_cmp c z) ≡ nat_lt c z
    by_one c z = elim (cases_Bool (nat_lt c z)) [
      | inl less ↦ rw less refl
      | inr not_less ↦ elim (cases_Bool (c == z)) [ inl same ↦ rw (not_less, same) refl | inr other ↦ rw (not_less, other) refl ]
    ]

    by_two : (b c y z : ℕ) → is_lt (ordering_then (nat_cmp b y) (nat_cmp c z)) ≡ (nat_lt b y || (b == y && nat_lt c z))
    by_two b c y z = elim (cases_Bool (nat_lt b y)) [
      | inl less ↦ rw less refl
      | inr not_less ↦ elim (cases_Bool (b == y)) [
        | inl same ↦ rw (not_less, same) (by_one c z)
        | inr other ↦ rw (not_less, other) refl
      ]
    ]
