-- Records in order with their places, and what it says of them that one more comes in.
use Rattle.std.proofs.Common.{◌≡◌, ◌⊎◌, inl, inr, ℕ, ◌-◌, ◌<◌, ◌≤◌, zero, suc, Bool, true, false, cond, if◌then◌else◌, List, [], ◌∷◌, ◌++◌, get_or, Option, None, Some, Result, Ok, Err, length, refl, sym, ap, subst, ◌∙◌, arith}
use Rattle.std.specs.Prelude.{IfNone, IfOk, IfSome, OnOk}
use Rattle.std.specs.BTreeMap.{insert_entry, is_at}
use Rattle.std.specs.List.{All, AllPairs}
use Rattle.std.specs.Map.{keys_of, lookup}
use Rattle.std.specs.Option.{option_or}
use Rattle.std.specs.Ordering.{is_eq, is_gt, is_lt, ordering_reverse}
use Rattle.std.specs.declared.cmp.Ordering.{Ordering}
use Rattle.std.specs.declared.cmp.Ordering.TheVariants.{Less, Equal, Greater}
use Rattle.std.proofs.lemmas.Bool.{both_ways, cases_Bool, cases_lt, false_from_ne_true}
use Rattle.std.proofs.lemmas.List.{get_or_default}
use Rattle.std.proofs.lemmas.List.Kept.{AllPairs-cons}
use Rattle.std.proofs.lemmas.List.Quantifiers.{all_pairs_push}
use Rattle.std.proofs.lemmas.Bool.Decides.{same_from_decides}
use Rattle.std.proofs.lemmas.List.Elements.{All-cons, All-head, All-tail, All-weaker}
use Rattle.warp_record.specs.declared.record.Record.{Record}
use Rattle.warp_record.specs.Order.{cmp-Decides, kind_of, record_cmp, record_total}
use Rattle.warp_table.specs.Records.{same_record}
use Rattle.warp_table.specs.inner.Kept.{place_if, places_of, put_other}
use Rattle.warp_table.proofs.Places.{lookup_ordered}
use Rattle.warp_table.proofs.Sets.{same_record-Decides}

-- each record is before those behind it
abbrev pub Rises : List (Record × ℕ) → Type 0
Rises es = AllPairs (λ a b. record_cmp a.0 b.0 ≡ Less) es

-- the order and the test of sameness agree
pub same_is : (a b : Record) → is_eq (record_cmp a b) ≡ same_record a b
same_is a b = same_from_decides (is_eq (record_cmp a b)) (same_record a b) (cmp-Decides a b) (same_record-Decides a b)

-- records that differ are told apart from both sides
apart : (a b : Record) → is_eq (record_cmp a b) ≡ false → is_eq (record_cmp b a) ≡ false
apart a b h = false_from_ne_true (is_eq (record_cmp b a)) (λ e. both_ways (is_eq (record_cmp a b)) h ((cmp-Decides a b).1 (sym ((cmp-Decides b a).0 e))))

less_apart : (o : Ordering) → is_lt o ≡ true → is_eq o ≡ false
less_apart Less h = refl
less_apart Equal h = cc
less_apart Greater h = cc

is_less : (o : Ordering) → is_lt o ≡ true → o ≡ Less
is_less Less h = refl
is_less Equal h = cc
is_less Greater h = cc

-- what is not before, and is another, is behind
is_greater : (o : Ordering) → is_lt o ≡ false → is_eq o ≡ false → o ≡ Greater
is_greater Less h g = cc
is_greater Equal h g = cc
is_greater Greater h g = refl

reversed : (a b : Record) → record_cmp a b ≡ Greater → record_cmp b a ≡ Less
reversed a b h = record_total.antisymm b a ∙ ap ordering_reverse h

greater_back : (a b : Record) → record_cmp a b ≡ Less → record_cmp b a ≡ Greater
greater_back a b h = record_total.antisymm b a ∙ ap ordering_reverse h

-- a record that is none of these is not found
pub not_found : (q : Record) (es : List (Record × ℕ)) → All (λ e. is_eq (record_cmp q e.0) ≡ false) es → lookup (is_at (record_cmp q)) es ≡ None
not_found q [] none = refl
not_found q (e ∷ es) none =
    let here = All-head (λ (e : Record × ℕ). is_eq (record_cmp q e.0) ≡ false) e es none in
    rw here (not_found q es (All-tail (λ (e : Record × ℕ). is_eq (record_cmp q e.0) ≡ false) e es none))

-- nor is one that all of these are before
pub behind_all : (q : Record) (es : List (Record × ℕ)) → All (λ e. record_cmp e.0 q ≡ Less) es → lookup (is_at (record_cmp q)) es ≡ None
behind_all q es before =
    not_found q es (All-weaker (λ (e : Record × ℕ). record_cmp e.0 q ≡ Less) (λ (e : Record × ℕ). is_eq (record_cmp q e.0) ≡ false)
    (λ e less. apart e.0 q (ap is_eq less)) es before)

-- nor an event among announcements
pub not_announced : (q : Record) (es : List (Record × ℕ)) → kind_of q ≡ 0 → All (λ e. kind_of e.0 ≡ 2) es → lookup (is_at (record_cmp q)) es ≡ None
not_announced q es event all =
    not_found q es (All-weaker (λ (e : Record × ℕ). kind_of e.0 ≡ 2) (λ (e : Record × ℕ). is_eq (record_cmp q e.0) ≡ false)
    (λ e kind. false_from_ne_true (is_eq (record_cmp q e.0)) (λ same. omega (arith, event, kind, ap kind_of ((cmp-Decides q e.0).0 same)))) es all)

-- nor a joint announcement among those of origins
pub not_listed : (q : Record) (es : List (Record × ℕ)) → kind_of q ≡ 3 → All (λ e. kind_of e.0 ≡ 2) es → lookup (is_at (record_cmp q)) es ≡ None
not_listed q es joint all =
    not_found q es (All-weaker (λ (e : Record × ℕ). kind_of e.0 ≡ 2) (λ (e : Record × ℕ). is_eq (record_cmp q e.0) ≡ false)
    (λ e kind. false_from_ne_true (is_eq (record_cmp q e.0)) (λ same. omega (arith, joint, kind, ap kind_of ((cmp-Decides q e.0).0 same)))) es all)

rises_tail : (e : Record × ℕ) (es : List (Record × ℕ)) → Rises (e ∷ es) → Rises es
rises_tail e es rises = λ i j d before within. rises (suc i) (suc j) d (omega (arith, before)) (omega (arith, within))

rises_head : (e : Record × ℕ) (es : List (Record × ℕ)) → Rises (e ∷ es) → All (λ x. record_cmp e.0 x.0 ≡ Less) es
rises_head e es rises = λ k d within. rises zero (suc k) d (omega arith) (omega (arith, within))

-- a record that stands in order is found by halves
pub sought : (q : Record) (es : List (Record × ℕ)) (at : ℕ) (e : Record × ℕ) → Rises es → at < length es → e ≡ get_or es at e → ((k : ℕ) (d : Record × ℕ) → k < at → is_lt (record_cmp (get_or es k d).0 q) ≡ true) →
    is_lt (record_cmp e.0 q) ≡ false → lookup (is_at (record_cmp q)) es ≡ place_if q e
sought q [] at e rises within is before behind = absurd (omega (arith, within))
sought q (x ∷ es) zero e rises within is before behind = subst (λ (y : Record × ℕ). lookup (is_at (record_cmp q)) (y ∷ es) ≡ place_if q e) is (elim (cases_Bool (is_eq (record_cmp e.0 q))) [
  | inl same ↦
      (let one : is_eq (record_cmp q e.0) ≡ true = (cmp-Decides q e.0).1 (sym ((cmp-Decides e.0 q).0 same)) in
      rw one (sym (ap (λ b. if b then Some e.1 else None) same)))
  | inr other ↦
      (let less : record_cmp q e.0 ≡ Less = reversed e.0 q (is_greater (record_cmp e.0 q) behind other) in
      let later : All (λ y. record_cmp e.0 y.0 ≡ Less) es = subst (λ (y : Record × ℕ). All (λ z. record_cmp y.0 z.0 ≡ Less) es) (sym is) (rises_head x es rises) in
      let rest = not_found q es (All-weaker (λ (y : Record × ℕ). record_cmp e.0 y.0 ≡ Less) (λ (y : Record × ℕ). is_eq (record_cmp q y.0) ≡ false)
      (λ y more. ap is_eq (record_total.trans q e.0 y.0 less more)) es later) in
      let off : is_eq (record_cmp q e.0) ≡ false = ap is_eq less in
      rw off (rest ∙ sym (ap (λ b. if b then Some e.1 else None) other)))
])
sought q (x ∷ es) (suc n) e rises within is before behind =
    let off : is_eq (record_cmp q x.0) ≡ false = apart x.0 q (less_apart (record_cmp x.0 q) (before zero x (omega arith))) in
    rw off (sought q es n e (rises_tail x es rises) (omega (arith, within)) is (λ k d l. before (suc k) d (omega (arith, l))) behind)

-- and is not there where all are before it
pub sought_past : (q : Record) (es : List (Record × ℕ)) (at : ℕ) → length es ≤ at → ((k : ℕ) (d : Record × ℕ) → k < at → is_lt (record_cmp (get_or es k d).0 q) ≡ true) → lookup (is_at (record_cmp q)) es ≡ None
sought_past q es at past before = not_found q es (λ k d within. apart (get_or es k d).0 q (less_apart (record_cmp (get_or es k d).0 q) (before k d (omega (arith, past, within)))))

-- the tests go from true to false
pub parted : (q : Record) (es : List (Record × ℕ)) → Rises es → (i j : ℕ) (d : Record × ℕ) → i ≤ j → j < length es → is_lt (record_cmp (get_or es j d).0 q) ≡ true → is_lt (record_cmp (get_or es i d).0 q) ≡ true
parted q es rises i j d up within before = elim (cases_lt_or i j up) [
  | inl same ↦ subst (λ k. is_lt (record_cmp (get_or es k d).0 q) ≡ true) (sym same) before
  | inr less ↦ ap is_lt (record_total.trans (get_or es i d).0 (get_or es j d).0 q (rises i j d less within) (is_less (record_cmp (get_or es j d).0 q) before))
]
  where
    cases_lt_or : (a b : ℕ) → a ≤ b → (a ≡ b) ⊎ (a < b)
    cases_lt_or a b h = elim (cases_lt a b) [ inl l ↦ inr l | inr m ↦ inl (omega (arith, h, m)) ]

-- where the last one is before it, all are
pub all_before : (q : Record) (es : List (Record × ℕ)) (last : Record × ℕ) → Rises es → last ≡ get_or es (length es - 1) last → is_lt (record_cmp last.0 q) ≡ true → All (λ e. record_cmp e.0 q ≡ Less) es
all_before q es last rises is before = λ k d within.
    let end = length es - 1 in
    let there : get_or es end d ≡ last = get_or_default es end d last (omega (arith, within)) ∙ sym is in
    let last_less : record_cmp (get_or es end d).0 q ≡ Less = ap (λ (e : Record × ℕ). record_cmp e.0 q) there ∙ is_less (record_cmp last.0 q) before in
    elim (cases_lt k end) [
      | inl less ↦ record_total.trans (get_or es k d).0 (get_or es end d).0 q (rises k end d less (omega (arith, within))) last_less
      | inr more ↦ (let same : k ≡ end = omega (arith, within, more) in subst (λ n. record_cmp (get_or es n d).0 q ≡ Less) (sym same) last_less)
    ]

-- where it is before the first one, it is before all
pub all_behind : (q : Record) (es : List (Record × ℕ)) (first : Record × ℕ) → Rises es → first ≡ get_or es 0 first → is_lt (record_cmp q first.0) ≡ true → All (λ e. record_cmp q e.0 ≡ Less) es
all_behind q [] first rises is before = λ k d within. absurd (omega (arith, within))
all_behind q (e ∷ es) first rises is before =
    let less : record_cmp q e.0 ≡ Less = subst (λ (x : Record × ℕ). record_cmp q x.0 ≡ Less) is (is_less (record_cmp q first.0) before) in
    All-cons (λ (x : Record × ℕ). record_cmp q x.0 ≡ Less) e es less
    (All-weaker (λ (x : Record × ℕ). record_cmp e.0 x.0 ≡ Less) (λ (x : Record × ℕ). record_cmp q x.0 ≡ Less) (λ x more. record_total.trans q e.0 x.0 less more) es (rises_head e es rises))

-- so that it is none of them
pub before_all : (q : Record) (es : List (Record × ℕ)) → All (λ e. record_cmp q e.0 ≡ Less) es → lookup (is_at (record_cmp q)) es ≡ None
before_all q es before =
    not_found q es (All-weaker (λ (e : Record × ℕ). record_cmp q e.0 ≡ Less) (λ (e : Record × ℕ). is_eq (record_cmp q e.0) ≡ false) (λ e less. ap is_eq less) es before)

-- the list with one more at its end, and at its front
pub rises_behind : (q : Record) (place : ℕ) (es : List (Record × ℕ)) → Rises es → All (λ e. record_cmp e.0 q ≡ Less) es → Rises (es ++ (q, place) ∷ [])
rises_behind q place es rises before = all_pairs_push (λ a b. record_cmp a.0 b.0 ≡ Less) es (q, place) rises before

pub rises_before : (q : Record) (place : ℕ) (es : List (Record × ℕ)) → Rises es → All (λ e. record_cmp q e.0 ≡ Less) es → Rises ((q, place) ∷ es)
rises_before q place es rises behind = AllPairs-cons (λ a b. record_cmp a.0 b.0 ≡ Less) (q, place) es behind rises

-- a map whose last key is before it lacks it
pub not_in_map : (q last : Record) (es : List (Record × ℕ)) → is_lt (record_cmp last q) ≡ true → All (λ k. is_lt (record_cmp last k) ≡ false) (keys_of es) → lookup (is_at (record_cmp q)) es ≡ None
not_in_map q last [] before none = refl
not_in_map q last (e ∷ es) before none =
    let other : is_eq (record_cmp q e.0) ≡ false = false_from_ne_true (is_eq (record_cmp q e.0)) (λ same. both_ways (is_lt (record_cmp last e.0))
    (All-head (λ k. is_lt (record_cmp last k) ≡ false) e.0 (keys_of es) none) (subst (λ k. is_lt (record_cmp last k) ≡ true) ((cmp-Decides q e.0).0 same) before)) in
    rw other (not_in_map q last es before (All-tail (λ k. is_lt (record_cmp last k) ≡ false) e.0 (keys_of es) none))

-- nor has one whose first key is behind it
pub not_in_later_map : (q first : Record) (es : List (Record × ℕ)) → is_lt (record_cmp q first) ≡ true → All (λ k. is_gt (record_cmp first k) ≡ false) (keys_of es) → lookup (is_at (record_cmp q)) es ≡ None
not_in_later_map q first [] before none = refl
not_in_later_map q first (e ∷ es) before none =
    let behind : is_gt (record_cmp first q) ≡ true = ap is_gt (greater_back q first (is_less (record_cmp q first) before)) in
    let other : is_eq (record_cmp q e.0) ≡ false = false_from_ne_true (is_eq (record_cmp q e.0)) (λ same. both_ways (is_gt (record_cmp first e.0))
    (All-head (λ k. is_gt (record_cmp first k) ≡ false) e.0 (keys_of es) none) (subst (λ k. is_gt (record_cmp first k) ≡ true) ((cmp-Decides q e.0).0 same) behind)) in
    rw other (not_in_later_map q first es before (All-tail (λ k. is_gt (record_cmp first k) ≡ false) e.0 (keys_of es) none))

-- One more

look_behind : (q : Record) (es : List (Record × ℕ)) (k : Record) (v : ℕ) → lookup (is_at (record_cmp q)) (es ++ (k, v) ∷ []) ≡ option_or (lookup (is_at (record_cmp q)) es) (if is_eq (record_cmp q k) then Some v else None)
look_behind q [] k v = refl
look_behind q (e ∷ es) k v = elim (cases_Bool (is_eq (record_cmp q e.0))) [
  | inl same ↦ rw same refl
  | inr other ↦ rw other (look_behind q es k v)
]

-- behind the list
pub put_behind : (es map : List (Record × ℕ)) (k : Record) (v : ℕ) → lookup (is_at (record_cmp k)) es ≡ None → places_of (es ++ (k, v) ∷ []) map ≡ put_other (places_of es map) k v
put_behind es map k v none = λ i q. each q i
  where
    by : (q : Record) (b : Bool) → b ≡ same_record q k → option_or (option_or (lookup (is_at (record_cmp q)) es) (if b then Some v else None)) (lookup (is_at (record_cmp q)) map) ≡ (if b then Some v else places_of es map q)
    by q true h =
        let same : k ≡ q = sym ((same_record-Decides q k).0 (sym h)) in
        ap (λ (o : Option ℕ). option_or (option_or o (Some v)) (lookup (is_at (record_cmp q)) map)) (subst (λ x. lookup (is_at (record_cmp x)) es ≡ None) same none)
    by q false h = kept (lookup (is_at (record_cmp q)) es)
      where
        kept : (o : Option ℕ) → option_or (option_or o None) (lookup (is_at (record_cmp q)) map) ≡ option_or o (lookup (is_at (record_cmp q)) map)
        kept None = refl
        kept (Some x) = refl

    each : (q : Record) → places_of (es ++ (k, v) ∷ []) map q ≡ put_other (places_of es map) k v q
    each q =
        ap (λ (o : Option ℕ). option_or o (lookup (is_at (record_cmp q)) map)) (look_behind q es k v ∙ ap (λ b. option_or (lookup (is_at (record_cmp q)) es) (if b then Some v else None)) (same_is q k))
        ∙ by q (same_record q k) refl

-- in front of it
pub put_before : (es map : List (Record × ℕ)) (k : Record) (v : ℕ) → places_of ((k, v) ∷ es) map ≡ put_other (places_of es map) k v
put_before es map k v = λ i q. each q i
  where
    by : (q : Record) (b : Bool) → option_or (cond b (Some v) (lookup (is_at (record_cmp q)) es)) (lookup (is_at (record_cmp q)) map) ≡ (if b then Some v else places_of es map q)
    by q true = refl
    by q false = refl

    each : (q : Record) → places_of ((k, v) ∷ es) map q ≡ put_other (places_of es map) k v q
    each q = by q (is_eq (record_cmp q k)) ∙ ap (λ b. if b then Some v else places_of es map q) (same_is q k)

-- in the map
pub put_in_map : (es map : List (Record × ℕ)) (k : Record) (v : ℕ) → lookup (is_at (record_cmp k)) es ≡ None → places_of es (insert_entry record_cmp map k v) ≡ put_other (places_of es map) k v
put_in_map es map k v none = λ i q. each q i
  where
    by : (q : Record) (b : Bool) → b ≡ same_record q k → option_or (lookup (is_at (record_cmp q)) es) (if b then Some v else lookup (is_at (record_cmp q)) map) ≡ (if b then Some v else places_of es map q)
    by q true h =
        let same : k ≡ q = sym ((same_record-Decides q k).0 (sym h)) in
        ap (λ (o : Option ℕ). option_or o (Some v)) (subst (λ x. lookup (is_at (record_cmp x)) es ≡ None) same none)
    by q false h = refl

    each : (q : Record) → places_of es (insert_entry record_cmp map k v) q ≡ put_other (places_of es map) k v q
    each q =
        ap (option_or (lookup (is_at (record_cmp q)) es)) (lookup_ordered record_cmp cmp-Decides q map k v ∙ ap (λ b. if b then Some v else lookup (is_at (record_cmp q)) map) (same_is q k))
        ∙ by q (same_record q k) refl

-- Behind an answer

pub some_of : (found : Option ℕ) (P Q : ℕ → Type 0) → ((x : ℕ) → P x → Q x) → IfSome found P → IfSome found Q
some_of None P Q f h = tt
some_of (Some x) P Q f h = f x h

pub none_of : (found : Option ℕ) (P Q : Type 0) → (P → Q) → IfNone found P → IfNone found Q
none_of None P Q f h = f h
none_of (Some x) P Q f h = tt

pub some_is : (found : Option ℕ) (P : ℕ → Type 0) (x : ℕ) → found ≡ Some x → IfSome found P → P x
some_is found P x is h = subst (λ (o : Option ℕ). IfSome o P) is h

pub none_is : (found : Option ℕ) (P : Type 0) → found ≡ None → IfNone found P → P
none_is found P is h = subst (λ (o : Option ℕ). IfNone o P) is h

pub ok_with : {T E : Type 0} (r : Result T E) (P : T → Type 0) (Q : Type 0) (R : T → Type 0) → ((x : T) → P x → Q → R x) → IfOk r P → OnOk r Q → IfOk r R
ok_with (Ok x) P Q R f h g = f x h g
ok_with (Err e) P Q R f h g = tt
