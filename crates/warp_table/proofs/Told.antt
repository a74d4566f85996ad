-- What a set of records tells of a name, and what the table of a list of them knows of it.
use Rattle.std.proofs.Common.{◌≡◌, ◌⊎◌, inl, inr, ℕ, ℤ, Bool, true, false, ◌||◌, List, [], ◌∷◌, ◌++◌, append_assoc, fold, Option, Some, None, IsTrue, ap, sym, subst, ◌∙◌, refl}
use Rattle.std.specs.Prelude.{◌↔◌}
use Rattle.std.specs.Option.{unwrap_or}
use Rattle.std.proofs.lemmas.Bool.{cases_Bool, both_ways, true≢false, or_cases, or_left, or_right}
use Rattle.std.proofs.lemmas.List.{append-nil}
use Rattle.warp_tag.specs.Moment.{Moment}
use Rattle.warp_tag.specs.declared.entry.Entry.{Entry}
use Rattle.warp_tag.specs.Table.{IsTable, has_name, fresh, changed, known, is_lesser, greater, with_event, with_withdrawal}
use Rattle.warp_tag.proofs.Names.{named_is}
use Rattle.warp_tag.proofs.Tables.{KeepsNames, table_changed, with_event_names}
use Rattle.warp_tag.proofs.Known.{named_self, known_changed, known_elsewhere, same_table}
use Rattle.warp_tag.proofs.Payloads.{not_lesser_self, same_payload, greater_still}
use Rattle.warp_record.specs.declared.record.Record.{Record}
use Rattle.warp_record.specs.declared.record.Record.TheVariants.{Event, Withdraw, Announce, Joint}
use Rattle.warp_table.specs.Names.{IsOf, HasEvent, HasWithdrawal, TellsPayload, Tells}
use Rattle.warp_table.specs.Records.{IsIn, Records, same_record, set_of, union}
use Rattle.warp_table.specs.LogNames.{with_record, table_of}
use Rattle.warp_table.proofs.Sets.{same_record-Decides, set_append}

-- sets that have the same records of a name tell the same of it
module _ (S T : Records) (o : ℕ) (t : Moment) (same : (said : Record) → IsOf o t said → IsIn S said ↔ IsIn T said) where
  same_payload_told : (p : Option (ℕ × ℤ)) → TellsPayload S o t p → TellsPayload T o t p
  same_payload_told None h = λ q has. h q ((same (Event o t q.0 q.1) (refl, refl)).1 has)
  same_payload_told (Some p) h = (
    (same (Event o t p.0 p.1) (refl, refl)).0 h.0,
    λ q has. h.1 q ((same (Event o t q.0 q.1) (refl, refl)).1 has),
  )

  pub same_told : (x : Option Entry) → Tells S o t x → Tells T o t x
  same_told None h = λ said has of. h said ((same said of).1 has) of
  same_told (Some e) h = record {
    some = (h.some.0, (same h.some.0 h.some.2).0 h.some.1, h.some.2);
    origin_is = h.origin_is;
    tag_is = h.tag_is;
    payload = same_payload_told e.event h.payload;
    mark = (λ up. (same (Withdraw o t) (refl, refl)).0 (h.mark.0 up), λ has. h.mark.1 ((same (Withdraw o t) (refl, refl)).1 has));
  }

-- one answer fits
module _ (S : Records) (o : ℕ) (t : Moment) where
  pub one_payload : (p q : Option (ℕ × ℤ)) → TellsPayload S o t p → TellsPayload S o t q → p ≡ q
  one_payload None None h k = refl
  one_payload None (Some q) h k = absurd (h q k.0)
  one_payload (Some p) None h k = absurd (k p h.0)
  one_payload (Some p) (Some q) h k = ap Some (same_payload p q (h.1 q k.0) (k.1 p h.0))

  one_mark : (m n : Bool) → IsTrue m ↔ HasWithdrawal S o t → IsTrue n ↔ HasWithdrawal S o t → m ≡ n
  one_mark true n h k = sym (k.1 (h.0 refl))
  one_mark false true h k = h.1 (k.0 refl)
  one_mark false false h k = refl

  pub told_once : (x y : Option Entry) → Tells S o t x → Tells S o t y → x ≡ y
  told_once None None h k = refl
  told_once None (Some e) h k = absurd (h k.some.0 k.some.1 k.some.2)
  told_once (Some d) None h k = absurd (k h.some.0 h.some.1 h.some.2)
  told_once (Some d) (Some e) h k =
      let origins : d.origin ≡ e.origin = h.origin_is ∙ sym k.origin_is in
      let tags : d.tag ≡ e.tag = h.tag_is ∙ sym k.tag_is in
      let payloads : d.event ≡ e.event = one_payload d.event e.event h.payload k.payload in
      let marks : d.withdrawn ≡ e.withdrawn = one_mark d.withdrawn e.withdrawn h.mark k.mark in
      ap Some (λ i. record { origin = origins i; tag = tags i; event = payloads i; withdrawn = marks i })

-- a set with one more record
module _ (S : Records) (said : Record) where
  abbrev pub with_one : Records
  with_one = union S (set_of (said ∷ []))

  pub one_came : IsIn with_one said
  one_came = or_right (S said) (same_record said said || false) (or_left (same_record said said) false ((same_record-Decides said said).1 refl))

  pub one_kept : (other : Record) → IsIn S other → IsIn with_one other
  one_kept other has = or_left (S other) (same_record other said || false) has

  pub one_cases : (other : Record) → IsIn with_one other → IsIn S other ⊎ (other ≡ said)
  one_cases other has = elim (or_cases (S other) (same_record other said || false) has) [
    | inl there ↦ inl there
    | inr is ↦ elim (or_cases (same_record other said) false is) [
      | inl same ↦ inr ((same_record-Decides other said).0 same)
      | inr never ↦ absurd (true≢false (sym never))
    ]
  ]

  pub one_other : (other : Record) → (other ≡ said → ⊥) → IsIn S other ↔ IsIn with_one other
  one_other other differs = (one_kept other, λ has. elim (one_cases other has) [ inl there ↦ there | inr is ↦ absurd (differs is) ])

  -- a name that the record is not of: the record tells nothing of it
  pub other_told : (o : ℕ) (t : Moment) → (IsOf o t said → ⊥) → (x : Option Entry) → Tells S o t x → Tells with_one o t x
  other_told o t other x h = same_told S with_one o t (λ r of. one_other r (λ is. other (subst (IsOf o t) is of))) x h

-- one more event tells of its name
module _ (S : Records) (o : ℕ) (t : Moment) (input : ℕ) (value : ℤ) where
  abbrev with_this : Records
  with_this = with_one S (Event o t input value)

  -- an event of the name is one of those before, or has the payload that came
  has_cases : (P : ℕ × ℤ → Type 0) → ((q : ℕ × ℤ) → HasEvent S o t q → P q) → P (input, value) → (q : ℕ × ℤ) → HasEvent with_this o t q → P q
  has_cases P before came q has = elim (one_cases S (Event o t input value) (Event o t q.0 q.1) has) [
    | inl there ↦ before q there
    | inr is ↦ (let inputs : input ≡ q.0 = cc in let values : value ≡ q.1 = cc in subst P (λ i. (inputs i, values i)) came)
  ]

  event_payload : (p : Option (ℕ × ℤ)) → TellsPayload S o t p → TellsPayload with_this o t (Some (greater p (input, value)))
  event_payload None h = (
    one_came S (Event o t input value),
    has_cases (λ q. is_lesser (input, value) q ≡ false) (λ q has. absurd (h q has)) (not_lesser_self (input, value)),
  )
  event_payload (Some p) h = elim (cases_Bool (is_lesser p (input, value))) [
    | inl l ↦ rw l (
      one_came S (Event o t input value),
      has_cases (λ q. is_lesser (input, value) q ≡ false) (λ q has. greater_still p q (input, value) (h.1 q has) l) (not_lesser_self (input, value)),
    )
    | inr l ↦ rw l (
      one_kept S (Event o t input value) (Event o t p.0 p.1) h.0,
      has_cases (λ q. is_lesser p q ≡ false) h.1 l,
    )
  ]

  event_mark : (m : Bool) → IsTrue m ↔ HasWithdrawal S o t → IsTrue m ↔ HasWithdrawal with_this o t
  event_mark m h =
      let other = one_other S (Event o t input value) (Withdraw o t) (λ is. cc) in
      (λ up. other.0 (h.0 up), λ has. h.1 (other.1 has))

  pub event_told : (x : Option Entry) → Tells S o t x → Tells with_this o t (Some (with_event input value (unwrap_or x (fresh o t))))
  event_told None h = record {
    some = (Event o t input value, one_came S (Event o t input value), (refl, refl));
    origin_is = refl;
    tag_is = refl;
    payload = event_payload None (λ q has. h (Event o t q.0 q.1) has (refl, refl));
    mark = event_mark false (λ up. absurd (true≢false (sym up)), λ has. absurd (h (Withdraw o t) has (refl, refl)));
  }
  event_told (Some e) h = record {
    some = (Event o t input value, one_came S (Event o t input value), (refl, refl));
    origin_is = h.origin_is;
    tag_is = h.tag_is;
    payload = event_payload e.event h.payload;
    mark = event_mark e.withdrawn h.mark;
  }

-- and so does one more withdrawal
module _ (S : Records) (o : ℕ) (t : Moment) where
  abbrev without_this : Records
  without_this = with_one S (Withdraw o t)

  withdrawal_payload : (p : Option (ℕ × ℤ)) → TellsPayload S o t p → TellsPayload without_this o t p
  withdrawal_payload None h = λ q has. h q ((one_other S (Withdraw o t) (Event o t q.0 q.1) (λ is. cc)).1 has)
  withdrawal_payload (Some p) h = (
    one_kept S (Withdraw o t) (Event o t p.0 p.1) h.0,
    λ q has. h.1 q ((one_other S (Withdraw o t) (Event o t q.0 q.1) (λ is. cc)).1 has),
  )

  pub withdrawal_told : (x : Option Entry) → Tells S o t x → Tells without_this o t (Some (with_withdrawal (unwrap_or x (fresh o t))))
  withdrawal_told None h = record {
    some = (Withdraw o t, one_came S (Withdraw o t), (refl, refl));
    origin_is = refl;
    tag_is = refl;
    payload = withdrawal_payload None (λ q has. h (Event o t q.0 q.1) has (refl, refl));
    mark = (λ up. one_came S (Withdraw o t), λ has. refl);
  }
  withdrawal_told (Some e) h = record {
    some = (Withdraw o t, one_came S (Withdraw o t), (refl, refl));
    origin_is = h.origin_is;
    tag_is = h.tag_is;
    payload = withdrawal_payload e.event h.payload;
    mark = (λ up. one_came S (Withdraw o t), λ has. refl);
  }

-- a withdrawal keeps the name
pub with_withdrawal_names : KeepsNames with_withdrawal
with_withdrawal_names e = (refl, refl)

-- one more record keeps the order of names
table_with : (table : List Entry) (said : Record) → IsTable table → IsTable (with_record table said)
table_with table (Event c s input value) h = table_changed (with_event input value) (with_event_names input value) c s table h
table_with table (Withdraw c s) h = table_changed with_withdrawal with_withdrawal_names c s table h
table_with table (Announce c s events withdrawn) h = h
table_with table (Joint s events withdrawn) h = h

-- what changes what is known of the record's own name, and tells it, tells what is known of each name
changed_told : (S : Records) (said : Record) (f : Entry → Entry) → KeepsNames f → (c : ℕ) (s : Moment) → ((o : ℕ) (t : Moment) → IsOf o t said → (c ≡ o) × (s ≡ t))
    → ((x : Option Entry) → Tells S c s x → Tells (with_one S said) c s (Some (f (unwrap_or x (fresh c s)))))
    → (o : ℕ) (t : Moment) (table : List Entry) → IsTable table → Tells S o t (known o t table) → Tells (with_one S said) o t (known o t (changed f c s table))
changed_told S said f names c s only own o t table h told = elim (cases_Bool (has_name o t (fresh c s))) [
  | inl n ↦ (let is = named_is o t (fresh c s) n in here o t (sym is.0) (sym is.1) told)
  | inr n ↦
      subst (Tells (with_one S said) o t)
      (sym (known_elsewhere f names c s o t n table))
      (other_told S said o t (λ of. let is = only o t of in both_ways (has_name o t (fresh c s)) n (rw (is.0, is.1) (named_self (fresh o t)))) (known o t table) told)
]
  where
    here : (o : ℕ) (t : Moment) → c ≡ o → s ≡ t → Tells S o t (known o t table) → Tells (with_one S said) o t (known o t (changed f c s table))
    here o t same_origin same_tag =
        subst (λ (p : ℕ × Moment). Tells S p.0 p.1 (known p.0 p.1 table) → Tells (with_one S said) p.0 p.1 (known p.0 p.1 (changed f c s table)))
        (λ i. (same_origin i, same_tag i))
        (λ told. subst (Tells (with_one S said) c s) (sym (known_changed f names c s table h)) (own (known c s table) told))

-- one more record is told by the table
told_with : (S : Records) (o : ℕ) (t : Moment) (table : List Entry) (said : Record) → IsTable table → Tells S o t (known o t table) → Tells (with_one S said) o t (known o t (with_record table said))
told_with S o t table (Event c s input value) h told =
    changed_told S (Event c s input value) (with_event input value) (with_event_names input value) c s (λ o t of. of) (event_told S c s input value) o t table h told
told_with S o t table (Withdraw c s) h told =
    changed_told S (Withdraw c s) with_withdrawal with_withdrawal_names c s (λ o t of. of) (withdrawal_told S c s) o t table h told
told_with S o t table (Announce c s events withdrawn) h told =
    other_told S (Announce c s events withdrawn) o t (λ of. of) (known o t table) told
told_with S o t table (Joint s events withdrawn) h told =
    other_told S (Joint s events withdrawn) o t (λ of. of) (known o t table) told

table_from : (table : List Entry) (rest : List Record) → IsTable table → IsTable (fold with_record table rest)
table_from table [] h = h
table_from table (said ∷ rest) h = table_from (with_record table said) rest (table_with table said h)

told_from : (records : List Record) (o : ℕ) (t : Moment) (table : List Entry) (rest : List Record) → IsTable table → Tells (set_of records) o t (known o t table) → Tells (set_of (records ++ rest)) o t (known o t (fold with_record table rest))
told_from records o t table [] h told = subst (λ l. Tells (set_of l) o t (known o t table)) (sym (append-nil records)) told
told_from records o t table (said ∷ rest) h told =
    subst (λ l. Tells (set_of l) o t (known o t (fold with_record (with_record table said) rest))) (append_assoc records (said ∷ []) rest)
    (told_from (records ++ said ∷ []) o t (with_record table said) rest (table_with table said h)
    (subst (λ T. Tells T o t (known o t (with_record table said))) (sym (set_append records (said ∷ []))) (told_with (set_of records) o t table said h told)))

-- the table of a list has each name once, in order
pub is_table : (records : List Record) → IsTable (table_of records)
is_table records = table_from [] records tt

-- and knows what the set of the list tells
pub known_by_set : (records : List Record) (o : ℕ) (t : Moment) → Tells (set_of records) o t (known o t (table_of records))
known_by_set records o t = told_from [] o t [] records tt (λ said has of. absurd (true≢false (sym has)))

-- lists with one set have one table
pub one_table : (a b : List Record) → set_of a ≡ set_of b → table_of a ≡ table_of b
one_table a b same =
    same_table (table_of a) (table_of b) (is_table a) (is_table b)
    (λ o t. told_once (set_of b) o t (known o t (table_of a)) (known o t (table_of b)) (subst (λ S. Tells S o t (known o t (table_of a))) same (known_by_set a o t)) (known_by_set b o t))
