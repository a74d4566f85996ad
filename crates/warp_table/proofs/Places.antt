-- Lemmas on the places of records.
use Rattle.std.proofs.Common.{◌≡◌, ◌≢◌, ◌⊎◌, inl, inr, ℕ, ℤ, zero, suc, ◌+◌, ◌-◌, ◌<◌, ◌≤◌, Bool, true, false, cond, List, [], ◌∷◌, ◌++◌, if◌then◌else◌, get_or, slice_get, Contains, Option, None, Some, length, length-append, refl, sym, ap, subst, ◌∙◌, arith}
use Rattle.std.specs.Prelude.{IfNone, IfSome}
use Rattle.std.specs.Bool.{Decides}
use Rattle.std.specs.List.{All}
use Rattle.std.specs.Map.{lookup}
use Rattle.std.proofs.lemmas.Bool.{both_ways, cases_Bool, cases_lt, false_from_ne_true, false≢true}
use Rattle.std.proofs.Math.Dec.{eqb-suc-zero}
use Rattle.std.proofs.lemmas.List.{get_or_append_left}
use Rattle.std.proofs.lemmas.List.Elements.{All-cons, All-head, All-tail}
use Rattle.std.proofs.Math.Seq.{get_or-append_seam}
use Rattle.std.proofs.lemmas.Option.{get_or_from_slice_get, slice_get-get_or, slice_get_within}
use Rattle.std.specs.BTreeMap.{insert_entry, is_at as is_key}
use Rattle.std.specs.Ordering.{is_eq, match_ordering}
use Rattle.std.specs.declared.cmp.Ordering.{Ordering}
use Rattle.std.specs.declared.cmp.Ordering.TheVariants.{Less, Equal, Greater}
use Rattle.warp_tag.specs.Limits.{most_records, widest}
use Rattle.warp_record.specs.declared.record.Record.{Record}
use Rattle.warp_record.specs.declared.record.Record.TheVariants.{Event}
use Rattle.warp_table.specs.Log.{EachOnce, IsAt}
use Rattle.warp_table.specs.Records.{same_record}
use Rattle.warp_table.specs.declared.rows.Known.{Known}
use Rattle.warp_table.specs.declared.names.Name.{Name}
use Rattle.warp_table.specs.inner.Kept.{OtherPlaces, HoldsEvent, KeepsPlaces, is_this, place_in, record_at, stands, with_value}
use Rattle.warp_table.proofs.Sets.{same_record-Decides}

-- The record at a place

here : (records : List Record) (i : ℕ) → record_at records (suc i) ≡ slice_get records (suc i - 1)
here records i = ap (λ b. if b then None else slice_get records (suc i - 1)) (eqb-suc-zero i)

pub record_at-is : (records : List Record) (place : ℕ) (said : Record) → IsAt records place said → record_at records place ≡ Some said
record_at-is records zero said at = absurd (omega (arith, at.0))
record_at-is records (suc i) said at = here records i ∙ at.1

pub is_at : (records : List Record) (place : ℕ) (said : Record) → record_at records place ≡ Some said → IsAt records place said
is_at records zero said is = cc
is_at records (suc i) said is = (omega arith, sym (here records i) ∙ is)

-- it stays with one more behind
pub more_at : (records : List Record) (new : Record) (place : ℕ) (said : Record) → IsAt records place said → IsAt (records ++ new ∷ []) place said
more_at records new place said at =
    let within : place - 1 < length records = slice_get_within records (place - 1) said at.1 in
    let many = length-append records (new ∷ []) in (
      at.0,
      slice_get-get_or (records ++ new ∷ []) (place - 1) said (omega (arith, within, many))
          ∙ ap Some (get_or_append_left records (new ∷ []) said (place - 1) within ∙ get_or_from_slice_get records (place - 1) said said at.1),
    )

-- which stands at the last place
pub last_at : (records : List Record) (new : Record) → IsAt (records ++ new ∷ []) (length records + 1) new
last_at records new =
    let many = length-append records (new ∷ []) in
    let same : length records + 1 - 1 ≡ length records = omega arith in (
      omega arith,
      ap (slice_get (records ++ new ∷ [])) same
          ∙ slice_get-get_or (records ++ new ∷ []) (length records) new (omega (arith, many)) ∙ ap Some (get_or-append_seam records new [] new),
    )

-- and at no other
pub at_cases : (records : List Record) (new : Record) (place : ℕ) (said : Record) → IsAt (records ++ new ∷ []) place said → IsAt records place said ⊎ ((place ≡ length records + 1) × (new ≡ said))
at_cases records new place said at = elim (cases_lt (place - 1) (length records)) [
  | inl before ↦ inl (at.0, slice_get-get_or records (place - 1) said before ∙ ap Some (sym (get_or_append_left records (new ∷ []) said (place - 1) before) ∙ here))
  | inr behind ↦ (let last : place - 1 ≡ length records = omega (arith, within, many, behind) in
      inr (omega (arith, at.0, last), sym (get_or-append_seam records new [] said) ∙ ap (λ i. get_or (records ++ new ∷ []) i said) (sym last) ∙ here))
]
  where
    here : get_or (records ++ new ∷ []) (place - 1) said ≡ said
    here = get_or_from_slice_get (records ++ new ∷ []) (place - 1) said said at.1

    within : place - 1 < length (records ++ new ∷ [])
    within = slice_get_within (records ++ new ∷ []) (place - 1) said at.1

    many : length (records ++ new ∷ []) ≡ length records + 1
    many = length-append records (new ∷ [])

-- what a list has stands at a place
pub some_place : (records : List Record) (said : Record) → Contains records said → (place : ℕ) × IsAt records place said
some_place records said has =
    let same : has.0 + 1 - 1 ≡ has.0 = omega arith in
    (has.0 + 1, (omega arith, ap (slice_get records) same ∙ slice_get-get_or records has.0 said has.1 ∙ ap Some has.2))

-- and what stands at one is in the list
pub at_has : (records : List Record) (place : ℕ) (said : Record) → IsAt records place said → Contains records said
at_has records place said at = (place - 1, slice_get_within records (place - 1) said at.1, get_or_from_slice_get records (place - 1) said said at.1)

-- The record at a place is this one

pub same_self : (said : Record) → same_record said said ≡ true
same_self said = (same_record-Decides said said).1 refl

pub stands-is : (records : List Record) (place : ℕ) (other said : Record) → IsAt records place other → stands records place said ≡ same_record other said
stands-is records place other said at = ap (λ (o : Option Record). is_this o said) (record_at-is records place other at)

this_is : (other : Option Record) (said : Record) → is_this other said ≡ true → other ≡ Some said
this_is None said h = absurd (false≢true h)
this_is (Some other) said h = ap Some ((same_record-Decides other said).0 h)

pub stands_at : (records : List Record) (place : ℕ) (said : Record) → stands records place said ≡ true → IsAt records place said
stands_at records place said h = is_at records place said (this_is (record_at records place) said h)

-- the event that a name keeps stays where it is
pub holds_more : (records : List Record) (new : Record) (name : Name) (place : ℕ) → HoldsEvent records name place → HoldsEvent (records ++ new ∷ []) name place
holds_more records new name place (inl none) = inl none
holds_more records new name place (inr some) = inr (some.0, more_at records new place (Event name.origin name.tag some.0.0 some.0.1) some.1)

pub record_same : (records : List Record) (new : Record) (name : Name) (place : ℕ) → HoldsEvent records name place → record_at (records ++ new ∷ []) place ≡ record_at records place
record_same records new name place (inl none) = ap (record_at (records ++ new ∷ [])) none ∙ ap (record_at records) (sym none)
record_same records new name place (inr some) =
    let said : Record = Event name.origin name.tag some.0.0 some.0.1 in
    record_at-is (records ++ new ∷ []) place said (more_at records new place said some.1) ∙ sym (record_at-is records place said some.1)

-- and is no other record than an event of the name
pub stands_apart : (records : List Record) (name : Name) (place : ℕ) (other : Record) → HoldsEvent records name place → ((payload : ℕ × ℤ) → Event name.origin name.tag payload.0 payload.1 ≢ other) → stands records place other ≡ false
stands_apart records name place other (inl none) apart = ap (λ p. stands records p other) none
stands_apart records name place other (inr some) apart =
    stands-is records place (Event name.origin name.tag some.0.0 some.0.1) other some.1
    ∙ false_from_ne_true (same_record (Event name.origin name.tag some.0.0 some.0.1) other) (λ h. apart some.0 ((same_record-Decides (Event name.origin name.tag some.0.0 some.0.1) other).0 h))

-- Look-ups after an insertion

-- two tests in turn, which are one or never both hold
cond_twice : {X : Type 0} (a b : Bool) → b ≡ a → (x y z : X) → cond a x z ≡ cond b x (cond a y z)
cond_twice true b h x y z = rw h refl
cond_twice false b h x y z = rw h refl

pub cond_apart : {X : Type 0} (a b : Bool) → (a ≡ true → b ≡ true → ⊥) → (x y z : X) → cond a y (cond b x z) ≡ cond b x (cond a y z)
cond_apart true true h x y z = absurd (h refl refl)
cond_apart true false h x y z = refl
cond_apart false b h x y z = refl

module _ {K V : Type 0} (eq : K → K → Bool) (is : (a b : K) → Decides (eq a b) (a ≡ b)) where
  -- the key that came in has the value, and the others have what they had
  pub lookup_inserted : (q : K) (es : List (K × V)) (k : K) (v : V) → lookup (eq q) (with_value eq es k v) ≡ cond (eq q k) (Some v) (lookup (eq q) es)
  lookup_inserted q [] k v = refl
  lookup_inserted q (e ∷ es) k v = elim (cases_Bool (eq k e.0)) [
    | inl same ↦ rw same (cond_twice (eq q e.0) (eq q k) (ap (eq q) ((is k e.0).0 same)) (Some v) (Some e.1) (lookup (eq q) es))
    | inr other ↦
        rw other (ap (λ r. cond (eq q e.0) (Some e.1) r) (lookup_inserted q es k v)
        ∙ cond_apart (eq q e.0) (eq q k) (λ a c. both_ways (eq k e.0) other ((is k e.0).1 (sym ((is q k).0 c) ∙ (is q e.0).0 a))) (Some v) (Some e.1) (lookup (eq q) es))
  ]

  -- what holds of each entry holds of each with one that came in
  pub All-inserted : (P : K × V → Type 0) (es : List (K × V)) (k : K) (v : V) → All P es → P (k, v) → All P (with_value eq es k v)
  All-inserted P [] k v all here = All-cons P (k, v) [] here all
  All-inserted P (e ∷ es) k v all here = elim (cases_Bool (eq k e.0)) [
    | inl same ↦ rw same (All-cons P (e.0, v) es (subst (λ (x : K). P (x, v)) ((is k e.0).0 same) here) (All-tail P e es all))
    | inr other ↦ rw other (All-cons P e (with_value eq es k v) (All-head P e es all) (All-inserted P es k v (All-tail P e es all) here))
  ]

  -- what holds of each entry holds of the one that is found
  pub All-found : (P : K × V → Type 0) (q : K) (v : V) (es : List (K × V)) → All P es → lookup (eq q) es ≡ Some v → P (q, v)
  All-found P q v [] all found = cc
  All-found P q v (e ∷ es) all found = elim (cases_Bool (eq q e.0)) [
    | inl same ↦
        (let is_v : Some e.1 ≡ Some v = sym (ap (λ b. cond b (Some e.1) (lookup (eq q) es)) same) ∙ found in
        let value : e.1 ≡ v = cc in
        subst (λ (x : V). P (q, x)) value (subst (λ (x : K). P (x, e.1)) (sym ((is q e.0).0 same)) (All-head P e es all)))
    | inr other ↦ All-found P q v es (All-tail P e es all) (sym (ap (λ b. cond b (Some e.1) (lookup (eq q) es)) other) ∙ found)
  ]

-- the same where the keys are in order
module _ {K V : Type 0} (cmp : K → K → Ordering) (is : (a b : K) → Decides (is_eq (cmp a b)) (a ≡ b)) where
  pub lookup_ordered : (q : K) (es : List (K × V)) (k : K) (v : V) → lookup (is_key (cmp q)) (insert_entry cmp es k v) ≡ cond (is_eq (cmp q k)) (Some v) (lookup (is_key (cmp q)) es)
  lookup_ordered q [] k v = refl
  lookup_ordered q (e ∷ es) k v = by (cmp k e.0) refl (lookup_ordered q es k v)
    where
      at : K → Bool
      at x = is_eq (cmp q x)

      rest : Option V
      rest = lookup (is_key (cmp q)) es

      by : (o : Ordering) → cmp k e.0 ≡ o → lookup (is_key (cmp q)) (insert_entry cmp es k v) ≡ cond (at k) (Some v) rest →
          lookup (is_key (cmp q)) (match_ordering o ((k, v) ∷ e ∷ es) ((e.0, v) ∷ es) (e ∷ insert_entry cmp es k v)) ≡ cond (at k) (Some v) (cond (at e.0) (Some e.1) rest)
      by Less o later = refl
      by Equal o later = cond_twice (at e.0) (at k) (ap at ((is k e.0).0 (ap is_eq o))) (Some v) (Some e.1) rest
      by Greater o later =
          ap (λ r. cond (at e.0) (Some e.1) r) later
          ∙ cond_apart (at e.0) (at k) (λ a c. both_ways (is_eq (cmp k e.0)) (ap is_eq o) ((is k e.0).1 (sym ((is q k).0 c) ∙ (is q e.0).0 a))) (Some v) (Some e.1) rest

-- The places after one more record

-- Where the places are those of before, and that of a new record comes behind the last one, they are those of the records
module _ (records : List Record) (names now_names : List (Name × Known)) (others now_others : OtherPlaces) (new : Record) where
  -- the new record is found at the last place, and the others where they were
  abbrev pub IsPlaced : Type 0
  IsPlaced = (said : Record) → place_in (records ++ new ∷ []) now_names now_others said ≡ (if same_record new said then Some (length records + 1) else place_in records names others said)

  pub kept_places : (Contains records new → ⊥) → IsPlaced → All (λ kept. HoldsEvent (records ++ new ∷ []) kept.0 kept.1.event) now_names → KeepsPlaces records names others → KeepsPlaces (records ++ new ∷ []) now_names now_others
  kept_places lacks placed events h = record {
    events = events;
    so = λ said place is. elim (cases_Bool (same_record new said)) [
      | inl same ↦
          (let here : Some (length records + 1) ≡ Some place = sym (placed said ∙ ap (λ b. if b then Some (length records + 1) else place_in records names others said) same) ∙ is in
          let last : length records + 1 ≡ place = cc in
          subst (λ (p : ℕ). IsAt (records ++ new ∷ []) p said) last (subst (IsAt (records ++ new ∷ []) (length records + 1)) ((same_record-Decides new said).0 same) (last_at records new)))
      | inr other ↦ more_at records new place said (h.so said place (sym (placed said ∙ ap (λ b. if b then Some (length records + 1) else place_in records names others said) other) ∙ is))
    ];
    found = λ said place at. placed said ∙ elim (at_cases records new place said at) [
      | inl before ↦
          (let other : same_record new said ≡ false = false_from_ne_true (same_record new said) (λ e. lacks (subst (Contains records) (sym ((same_record-Decides new said).0 e)) (at_has records place said before))) in
          ap (λ b. if b then Some (length records + 1) else place_in records names others said) other ∙ h.found said place before)
      | inr last ↦
          (let same : same_record new said ≡ true = (same_record-Decides new said).1 last.1 in
          ap (λ b. if b then Some (length records + 1) else place_in records names others said) same ∙ ap Some (sym last.0))
    ];
  }

-- What the places are good for

-- no record stands at two places
pub each_once : (records : List Record) (names : List (Name × Known)) (others : OtherPlaces) → KeepsPlaces records names others → EachOnce records
each_once records names others h = λ i j d before within same.
    let first : IsAt records (i + 1) (get_or records j d) = place_at i d (omega (arith, before, within)) (get_or records j d) same in
    let second : IsAt records (j + 1) (get_or records j d) = place_at j d within (get_or records j d) refl in
    let one : Some (i + 1) ≡ Some (j + 1) = sym (h.found (get_or records j d) (i + 1) first) ∙ h.found (get_or records j d) (j + 1) second in
    let is : i + 1 ≡ j + 1 = cc in
    omega (arith, is, before)
  where
    place_at : (k : ℕ) (d : Record) → k < length records → (said : Record) → get_or records k d ≡ said → IsAt records (k + 1) said
    place_at k d within said is =
        let same : k + 1 - 1 ≡ k = omega arith in
        (omega arith, ap (slice_get records) same ∙ slice_get-get_or records k d within ∙ ap Some is)

-- a record that has no place is not there
pub not_there : (records : List Record) (names : List (Name × Known)) (others : OtherPlaces) (said : Record) → KeepsPlaces records names others → place_in records names others said ≡ None → Contains records said → ⊥
not_there records names others said h none has =
    let at = some_place records said has in
    let both : None ≡ Some at.0 = sym none ∙ h.found said at.0 at.1 in
    cc

-- what is found is the record's place
pub place_told : (records : List Record) (names : List (Name × Known)) (others : OtherPlaces) (said : Record) (found : Option ℕ) → KeepsPlaces records names others → length records ≤ most_records widest →
    found ≡ place_in records names others said → IfSome found (λ place. IsAt records place said × (place ≤ most_records widest))
place_told records names others said None h few is = tt
place_told records names others said (Some place) h few is =
    let at = h.so said place (sym is) in
    (at, omega (arith, few, slice_get_within records (place - 1) said at.1))

-- and where none is found it is not there
pub place_lacks : (records : List Record) (names : List (Name × Known)) (others : OtherPlaces) (said : Record) (found : Option ℕ) → KeepsPlaces records names others →
    found ≡ place_in records names others said → IfNone found (Contains records said → ⊥)
place_lacks records names others said None h is = not_there records names others said h (sym is)
place_lacks records names others said (Some place) h is = tt
