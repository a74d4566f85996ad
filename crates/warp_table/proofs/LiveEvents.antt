-- The live events of a set of records: the table of a list has those of the list's set, and a set has one list of them.
use Rattle.std.proofs.Common.{◌≡◌, inl, inr, ℕ, ℤ, Bool, true, false, List, [], ◌∷◌, Option, Some, None, Contains, IsTrue, ap, sym, subst, ◌∙◌, refl, arith}
use Rattle.std.specs.Prelude.{AllPairs}
use Rattle.std.specs.List.{AllByRecursion}
use Rattle.std.proofs.lemmas.Bool.{cases_Bool, both_ways, false_from_ne_true, true≢false}
use Rattle.warp_tag.specs.Moment.{Moment}
use Rattle.warp_tag.specs.declared.entry.Entry.{Entry}
use Rattle.warp_tag.specs.Table.{Event, IsTable, name_before, has_name, fresh, known, live_event, live}
use Rattle.warp_tag.proofs.Lists.{same_some, some_not_none}
use Rattle.warp_tag.proofs.Names.{Above, name_before_trans, named_is}
use Rattle.warp_tag.proofs.Known.{before_not_named, named_self, known_above, known_here, known_past}
use Rattle.warp_record.specs.declared.record.Record.{Record}
use Rattle.warp_record.specs.declared.record.Record.TheVariants as said
use Rattle.warp_table.specs.Names.{IsLive, IsLiveEvent, Tells, TellsPayload, event_before}
use Rattle.warp_table.specs.Records.{Records, set_of}
use Rattle.warp_table.specs.LogNames.{table_of}
use Rattle.warp_table.proofs.Orders.{All-cons_option, AllPairs-cons_option, Contains-cons_option, cons_option-here, cons_option-there, one_order}
use Rattle.warp_table.proofs.Told.{is_table, known_by_set, one_payload}

-- of two events not each comes before the other
events_apart : (d e : Event) → event_before d e ≡ true → event_before e d ≡ true → ⊥
events_apart d e h k =
    let self : name_before d.origin d.tag (fresh d.origin d.tag) ≡ true = name_before_trans d.origin d.tag (fresh e.origin e.tag) (fresh d.origin d.tag) h k in
    both_ways (has_name d.origin d.tag (fresh d.origin d.tag)) (before_not_named d.origin d.tag (fresh d.origin d.tag) self) (named_self (fresh d.origin d.tag))

-- a set has one list of live events
pub live_once : (S : Records) (D E : List Event) → IsLive S D → IsLive S E → D ≡ E
live_once S D E h k =
    one_order event_before events_apart D E h.ordered k.ordered (λ e. ((λ has. (k.each e).1 ((h.each e).0 has)), (λ has. (h.each e).1 ((k.each e).0 has))))

-- what a live event says of its entry
record IsEventOf (e : Event) (origin : ℕ) (tag : Moment) (event : Option (ℕ × ℤ)) (withdrawn : Bool) : Type 0 where
  pub origin_is : origin ≡ e.origin
  pub tag_is : tag ≡ e.tag
  pub payload : event ≡ Some (e.input, e.value)
  pub unwithdrawn : withdrawn ≡ false

live_parts : (e : Event) (o : ℕ) (t : Moment) (event : Option (ℕ × ℤ)) (withdrawn : Bool) → live_event (record { origin = o; tag = t; event = event; withdrawn = withdrawn }) ≡ Some e → IsEventOf e o t event withdrawn
live_parts e o t event true h = absurd (some_not_none e (sym h))
live_parts e o t None false h = absurd (some_not_none e (sym h))
live_parts e o t (Some p) false h =
    let same : record { origin = o; tag = t; input = p.0; value = p.1 } ≡ e = same_some _ _ h in
    record {
      origin_is = ap (λ d. d.origin) same;
      tag_is = ap (λ d. d.tag) same;
      payload = λ i. Some ((same i).input, (same i).value);
      unwithdrawn = refl;
    }

live_made : (e : Event) (o : ℕ) (t : Moment) (event : Option (ℕ × ℤ)) (withdrawn : Bool) → IsEventOf e o t event withdrawn → live_event (record { origin = o; tag = t; event = event; withdrawn = withdrawn }) ≡ Some e
live_made e o t event withdrawn h = λ i. live_event (record { origin = h.origin_is i; tag = h.tag_is i; event = h.payload i; withdrawn = h.unwithdrawn i })

-- a live event is that of the entry that the table knows of its name
known_live : (e : Event) (x : Entry) (es : List Entry) → known e.origin e.tag es ≡ Some x → live_event x ≡ Some e → Contains (live es) e
known_live e x [] h l = absurd (some_not_none x (sym h))
known_live e x (d ∷ es) h l = elim (cases_Bool (has_name e.origin e.tag d)) [
  | inl n ↦
      let same : d ≡ x = same_some d x (sym (known_here e.origin e.tag d es n) ∙ h) in
      cons_option-here (live_event d) (live es) e (ap live_event same ∙ l)
  | inr n ↦ cons_option-there (live_event d) (live es) e (known_live e x es (sym (known_past e.origin e.tag d es n) ∙ h) l)
]

live_known : (e : Event) (es : List Entry) → IsTable es → Contains (live es) e → (x : Entry) × (known e.origin e.tag es ≡ Some x) × (live_event x ≡ Some e)
live_known e [] table has = absurd (omega (arith, has.1))
live_known e (d ∷ es) table has = elim (Contains-cons_option (live_event d) (live es) e has) [
  | inl l ↦
      let parts = live_parts e d.origin d.tag d.event d.withdrawn l in
      (d, known_here e.origin e.tag d es (rw (← parts.origin_is, ← parts.tag_is) (named_self d)), l)
  | inr later ↦
      let r = live_known e es table.1 later in
      elim (cases_Bool (has_name e.origin e.tag d)) [
        | inl n ↦ (let is = named_is e.origin e.tag d n in absurd (some_not_none r.0 (sym r.1 ∙ rw (is.0, is.1) (known_above d.origin d.tag es table.0))))
        | inr n ↦ (r.0, known_past e.origin e.tag d es n ∙ r.1, r.2)
      ]
]

-- the live events of a table are in its order
live_above : (o : ℕ) (t : Moment) (es : List Entry) → Above o t es → AllByRecursion (λ (d : Event). IsTrue (name_before o t (fresh d.origin d.tag))) (live es)
live_above o t [] above = tt
live_above o t (e ∷ es) above =
    All-cons_option (λ (d : Event). IsTrue (name_before o t (fresh d.origin d.tag))) (live_event e) (live es)
    (λ d l. let parts = live_parts d e.origin e.tag e.event e.withdrawn l in rw (← parts.origin_is, ← parts.tag_is) above.0) (live_above o t es above.1)

live_ordered : (es : List Entry) → IsTable es → AllPairs (λ (e d : Event). IsTrue (event_before e d)) (live es)
live_ordered [] table = λ i j d below within. absurd (omega arith)
live_ordered (e ∷ es) table =
    AllPairs-cons_option (λ (x d : Event). IsTrue (event_before x d)) (live_event e) (live es)
    (λ x l. let parts = live_parts x e.origin e.tag e.event e.withdrawn l in rw (← parts.origin_is, ← parts.tag_is) (live_above e.origin e.tag es table.0)) (live_ordered es table.1)

-- the live events of the table are those of the set
module _ (records : List Record) (e : Event) where
  told : (r : Option Entry) → known e.origin e.tag (table_of records) ≡ r → Tells (set_of records) e.origin e.tag r
  told r is = subst (Tells (set_of records) e.origin e.tag) is (known_by_set records e.origin e.tag)

  live_told : Contains (live (table_of records)) e → IsLiveEvent (set_of records) e
  live_told has =
      let r = live_known e (table_of records) (is_table records) has in
      let parts = live_parts e r.0.origin r.0.tag r.0.event r.0.withdrawn r.2 in
      let tells = told (Some r.0) r.1 in
      record {
        greatest = subst (TellsPayload (set_of records) e.origin e.tag) parts.payload tells.payload;
        unwithdrawn = λ withdrawn. true≢false (sym (tells.mark.1 withdrawn) ∙ parts.unwithdrawn);
      }

  told_live : (r : Option Entry) → known e.origin e.tag (table_of records) ≡ r → IsLiveEvent (set_of records) e → Contains (live (table_of records)) e
  told_live None is h = absurd (told None is (said.Event e.origin e.tag e.input e.value) h.greatest.0 (refl, refl))
  told_live (Some x) is h =
      let tells = told (Some x) is in
      known_live e x (table_of records) is (live_made e x.origin x.tag x.event x.withdrawn (record {
        origin_is = tells.origin_is;
        tag_is = tells.tag_is;
        payload = one_payload (set_of records) e.origin e.tag x.event (Some (e.input, e.value)) tells.payload h.greatest;
        unwithdrawn = false_from_ne_true x.withdrawn (λ up. h.unwithdrawn (tells.mark.0 up));
      }))

pub live_by_set : (records : List Record) → IsLive (set_of records) (live (table_of records))
live_by_set records = record {
  ordered = live_ordered (table_of records) (is_table records);
  each = λ e. (live_told records e, told_live records e (known e.origin e.tag (table_of records)) refl);
}
