-- What one more record changes of what is kept of the places of records.
use Rattle.std.proofs.Common.{◌≡◌, ◌≢◌, inl, inr, ℕ, ℤ, ◌+◌, ◌==◌, Bool, true, false, cond, is_some, List, [], ◌∷◌, ◌++◌, if◌then◌else◌, Contains, Option, None, Some, length, refl, sym, ap, subst, ◌∙◌, arith}
use Rattle.std.specs.List.{All}
use Rattle.std.specs.Map.{lookup}
use Rattle.std.specs.Option.{unwrap_or}
use Rattle.std.proofs.lemmas.Bool.{both_ways, cases_Bool, false_from_ne_true}
use Rattle.std.proofs.lemmas.Bool.Decides.{Decides-eqb, Decides-like, same_from_decides}
use Rattle.std.proofs.lemmas.List.Elements.{All-weaker}
use Rattle.warp_tag.specs.Moment.{Moment}
use Rattle.warp_tag.specs.Table.{greater, is_lesser}
use Rattle.warp_record.specs.declared.record.Record.{Record}
use Rattle.warp_record.specs.declared.record.Record.TheVariants.{Event, Withdraw, Announce, Joint}
use Rattle.warp_record.specs.Order.{kind_of}
use Rattle.warp_table.specs.Log.{IsAt}
use Rattle.warp_table.specs.Records.{same_record}
use Rattle.warp_table.specs.declared.rows.Known.{Known}
use Rattle.warp_table.specs.declared.names.Name.{Name}
use Rattle.warp_table.specs.declared.table.Parted.{Parted}
use Rattle.warp_table.specs.inner.Heard.{Heard, earlier_of, with_heard_event, with_tag}
use Rattle.warp_table.specs.inner.Kept.{OtherPlaces, HoldsEvent, KeepsPlaces, NotesEvent, counts_less, event_place, is_named, is_this, known_of, nothing_known, other_place, parted_of, payload_at, payload_of, place_in, put_known, put_other, stands, with_event_at, with_withdrawal_at, withdrawal_place}
use Rattle.warp_table.proofs.FirstNames.{named-Decides}
use Rattle.warp_table.proofs.Places.{All-found, All-inserted, cond_apart, holds_more, kept_places, last_at, lookup_inserted, more_at, record_at-is, record_same, stands-is, stands_apart}
use Rattle.warp_table.proofs.Sets.{same_record-Decides}

-- One more event, beside the one that its name keeps

-- it is the first
pub first_noted : (records : List Record) (name : Name) (payload : ℕ × ℤ) (others : OtherPlaces) (own own_now : Heard) →
    own_now ≡ record own { events = with_tag name.tag own.events } → NotesEvent records name payload 0 (length records + 1) others others own own_now
first_noted records name payload others own own_now heard =
    let said : Record = Event name.origin name.tag payload.0 payload.1 in
    let at = last_at records said in
    record {
      lacks = inl refl;
      holds = inr (payload, at);
      counts = ap payload_of (record_at-is (records ++ said ∷ []) (length records + 1) said at);
      places = λ other. ap (λ b. if b then Some (length records + 1) else other_place others other) (stands-is (records ++ said ∷ []) (length records + 1) said other at);
      heard = heard;
    }

-- sameness of records goes both ways
same_either : (a b : Record) → same_record a b ≡ same_record b a
same_either a b = same_from_decides (same_record a b) (same_record b a) (same_record-Decides a b) (Decides-like (same_record b a) sym sym (same_record-Decides b a))

-- among the others is one more
other_put : (others : OtherPlaces) (new other : Record) (place : ℕ) → other_place (put_other others new place) other ≡ (if same_record other new then Some place else other_place others other)
other_put others new other place = refl

-- what is found nowhere does not stand where its name keeps one
found_nowhere : (stands : Bool) (place : ℕ) (other : Option ℕ) → (if stands then Some place else other) ≡ None → stands ≡ false
found_nowhere true place other none = cc
found_nowhere false place other none = refl

-- or it is a further one, beside one with this payload
module _ (records : List Record) (name : Name) (payload before : ℕ × ℤ) (kept : ℕ) (others : OtherPlaces) (own own_now : Heard) where
  abbrev said : Record
  said = Event name.origin name.tag payload.0 payload.1

  abbrev one : Record
  one = Event name.origin name.tag before.0 before.1

  heard_further : IsAt records kept one → own_now ≡ record own { doubled = Some (earlier_of own.doubled name.tag) } → own_now ≡ with_heard_event (is_some (payload_at records kept)) name.tag own
  heard_further at heard = heard ∙ ap (λ (o : Option Record). with_heard_event (is_some (payload_of o)) name.tag own) (sym (record_at-is records kept one at))

  greater_noted : IsAt records kept one → event_place records kept others said ≡ None → is_lesser before payload ≡ true → own_now ≡ record own { doubled = Some (earlier_of own.doubled name.tag) } →
      NotesEvent records name payload kept (length records + 1) others (put_other others one kept) own own_now
  greater_noted at none lesser heard =
      let last = last_at records said in
      record {
        lacks = inr none;
        holds = inr (payload, last);
        counts = ap payload_of (record_at-is (records ++ said ∷ []) (length records + 1) said last)
            ∙ sym (ap (λ (o : Option Record). Some (greater (payload_of o) payload)) (record_at-is records kept one at) ∙ ap (λ b. Some (if b then payload else before)) lesser);
        places = λ other.
            ap (λ b. if b then Some (length records + 1) else other_place (put_other others one kept) other) (stands-is (records ++ said ∷ []) (length records + 1) said other last)
            ∙ ap (λ (o : Option ℕ). if same_record said other then Some (length records + 1) else o)
            (other_put others one other kept ∙ ap (λ b. if b then Some kept else other_place others other) (same_either other one ∙ sym (stands-is records kept one other at)));
        heard = heard_further at heard;
      }

  lesser_noted : IsAt records kept one → event_place records kept others said ≡ None → is_lesser before payload ≡ false → own_now ≡ record own { doubled = Some (earlier_of own.doubled name.tag) } →
      NotesEvent records name payload kept kept others (put_other others said (length records + 1)) own own_now
  lesser_noted at none least heard =
      let still = more_at records said kept one at in
      let unlike : stands records kept said ≡ false = found_nowhere (stands records kept said) kept (other_place others said) none in
      record {
        lacks = inr none;
        holds = inr (before, still);
        counts = ap payload_of (record_at-is (records ++ said ∷ []) kept one still)
            ∙ sym (ap (λ (o : Option Record). Some (greater (payload_of o) payload)) (record_at-is records kept one at) ∙ ap (λ b. Some (if b then payload else before)) least);
        places = λ other.
            ap (λ b. if b then Some kept else other_place (put_other others said (length records + 1)) other) (stands-is (records ++ said ∷ []) kept one other still)
            ∙ ap (λ (o : Option ℕ). if same_record one other then Some kept else o)
            (other_put others said other (length records + 1) ∙ ap (λ b. if b then Some (length records + 1) else other_place others other) (same_either other said))
            ∙ cond_apart (same_record one other) (same_record said other)
            (λ a b. both_ways (stands records kept said) unlike (stands-is records kept one said at ∙ (same_record-Decides one said).1 ((same_record-Decides one other).0 a ∙ sym ((same_record-Decides said other).0 b))))
            (Some (length records + 1)) (Some kept) (other_place others other)
            ∙ ap (λ b. if same_record said other then Some (length records + 1) else (if b then Some kept else other_place others other)) (sym (stands-is records kept one other at));
        heard = heard_further at heard;
      }

  -- the one that counts less goes to the others
  pub further_noted : (parted : Parted) (now : OtherPlaces) → IsAt records kept one → event_place records kept others said ≡ None → parted ≡ parted_of records kept said payload →
      now ≡ put_other others parted.other parted.at → own_now ≡ record own { doubled = Some (earlier_of own.doubled name.tag) } → NotesEvent records name payload kept parted.event others now own own_now
  further_noted parted now at none is put heard = elim (cases_Bool (is_lesser before payload)) [
    | inl lesser ↦
        (let p : parted ≡ record { other = one; at = kept; event = length records + 1 } =
        is ∙ ap (λ (o : Option Record). if counts_less (payload_of o) payload then record { other = unwrap_or o said; at = kept; event = length records + 1 } else record { other = said; at = length records + 1; event = kept }) (record_at-is records kept one at)
        ∙ ap (λ b. if b then record { other = one; at = kept; event = length records + 1 } else record { other = said; at = length records + 1; event = kept }) lesser in
        subst (λ (o : OtherPlaces). NotesEvent records name payload kept parted.event others o own own_now) (sym (put ∙ ap (λ (q : Parted). put_other others q.other q.at) p))
        (subst (λ (q : Parted). NotesEvent records name payload kept q.event others (put_other others one kept) own own_now) (sym p) (greater_noted at none lesser heard)))
    | inr least ↦
        (let p : parted ≡ record { other = said; at = length records + 1; event = kept } =
        is ∙ ap (λ (o : Option Record). if counts_less (payload_of o) payload then record { other = unwrap_or o said; at = kept; event = length records + 1 } else record { other = said; at = length records + 1; event = kept }) (record_at-is records kept one at)
        ∙ ap (λ b. if b then record { other = one; at = kept; event = length records + 1 } else record { other = said; at = length records + 1; event = kept }) least in
        subst (λ (o : OtherPlaces). NotesEvent records name payload kept parted.event others o own own_now) (sym (put ∙ ap (λ (q : Parted). put_other others q.other q.at) p))
        (subst (λ (q : Parted). NotesEvent records name payload kept q.event others (put_other others said (length records + 1)) own own_now) (sym p) (lesser_noted at none least heard)))
  ]

  -- and is an event
  pub parted_kind : (parted : Parted) → IsAt records kept one → parted ≡ parted_of records kept said payload → kind_of parted.other ≡ 0
  parted_kind parted at is = elim (cases_Bool (is_lesser before payload)) [
    | inl lesser ↦
        ap (λ (q : Parted). kind_of q.other) (is ∙ ap (λ (o : Option Record). if counts_less (payload_of o) payload then record { other = unwrap_or o said; at = kept; event = length records + 1 } else record { other = said; at = length records + 1; event = kept }) (record_at-is records kept one at)
        ∙ ap (λ b. if b then record { other = one; at = kept; event = length records + 1 } else record { other = said; at = length records + 1; event = kept }) lesser)
    | inr least ↦
        ap (λ (q : Parted). kind_of q.other) (is ∙ ap (λ (o : Option Record). if counts_less (payload_of o) payload then record { other = unwrap_or o said; at = kept; event = length records + 1 } else record { other = said; at = length records + 1; event = kept }) (record_at-is records kept one at)
        ∙ ap (λ b. if b then record { other = one; at = kept; event = length records + 1 } else record { other = said; at = length records + 1; event = kept }) least)
  ]

-- the same of what is kept and noted by these names
pub first_event : (records : List Record) (name : Name) (payload : ℕ × ℤ) (kept event : ℕ) (others : OtherPlaces) (own own_now : Heard) → kept ≡ 0 → event ≡ length records + 1 →
    own_now ≡ record own { events = with_tag name.tag own.events } → NotesEvent records name payload kept event others others own own_now
first_event records name payload kept event others own own_now none last heard =
    subst (λ (k : ℕ). NotesEvent records name payload k event others others own own_now) (sym none)
    (subst (λ (e : ℕ). NotesEvent records name payload 0 e others others own own_now) (sym last) (first_noted records name payload others own own_now heard))

-- What is known of names

-- what is known of one name changes that of no other
pub known_put : (name other : Name) (names : List (Name × Known)) (known : Known) → known_of other (put_known names name known) ≡ cond (is_named other.origin other.tag name) known (known_of other names)
known_put name other names known =
    ap (λ (found : Option Known). unwrap_or found nothing_known) (lookup_inserted (λ one other. is_named one.origin one.tag other) named-Decides other names name known)
    ∙ of_either (is_named other.origin other.tag name) (lookup (is_named other.origin other.tag) names)
  where
    of_either : (b : Bool) (found : Option Known) → unwrap_or (cond b (Some known) found) nothing_known ≡ cond b known (unwrap_or found nothing_known)
    of_either true found = refl
    of_either false found = refl

-- what is known already changes nothing
pub put_same : (name : Name) (known : Known) (names : List (Name × Known)) → lookup (is_named name.origin name.tag) names ≡ Some known → put_known names name known ≡ names
put_same name known [] is = absurd (none_some is)
  where
    none_some : {X : Type 0} {x : X} → None ≡ Some x → ⊥
    none_some e = cc
put_same name known (kept ∷ names) is = elim (cases_Bool (is_named name.origin name.tag kept.0)) [
  | inl b ↦ (
      let same : Some kept.1 ≡ Some known = rw b at is in
      rw b (ap (λ (k : Known). (kept.0, k) ∷ names) (sym (some_same same)))
      )
  | inr b ↦ (
      let rest : lookup (is_named name.origin name.tag) names ≡ Some known = rw b at is in
      rw b (ap (λ (ns : List (Name × Known)). kept ∷ ns) (put_same name known names rest))
      )
]
  where
    some_same : {X : Type 0} {x y : X} → Some x ≡ Some y → x ≡ y
    some_same e = cc

-- nor does the event that it keeps
pub kept_same : (name : Name) (known : Known) (event : ℕ) (names : List (Name × Known)) → lookup (is_named name.origin name.tag) names ≡ Some known → known.event ≡ event →
    names ≡ put_known names name (with_event_at event known)
kept_same name known event names is same = subst (λ (e : ℕ). names ≡ put_known names name (with_event_at e known)) same (sym (put_same name known names is))

-- the event that a name keeps is one of its own
pub holds_own : (records : List Record) (names : List (Name × Known)) (name : Name) → All (λ kept. HoldsEvent records kept.0 kept.1.event) names → HoldsEvent records name (known_of name names).event
holds_own records names name all = by (lookup (is_named name.origin name.tag) names) refl
  where
    by : (found : Option Known) → lookup (is_named name.origin name.tag) names ≡ found → HoldsEvent records name (unwrap_or found nothing_known).event
    by None is = inl refl
    by (Some known) is = All-found (λ one other. is_named one.origin one.tag other) named-Decides (λ kept. HoldsEvent records kept.0 kept.1.event) name known names all is

-- Of other names nothing changes

module _ (records : List Record) (names : List (Name × Known)) (others : OtherPlaces) (h : KeepsPlaces records names others) where
  -- the event that a name keeps is found as before
  stands_same : (new other : Record) (name : Name) → stands (records ++ new ∷ []) (known_of name names).event other ≡ stands records (known_of name names).event other
  stands_same new other name = ap (λ (o : Option Record). is_this o other) (record_same records new name (known_of name names).event (holds_own records names name h.events))

  -- with one more behind, names keep events of their own
  events_more : (new : Record) → All (λ kept. HoldsEvent (records ++ new ∷ []) kept.0 kept.1.event) names
  events_more new =
      All-weaker (λ (kept : Name × Known). HoldsEvent records kept.0 kept.1.event) (λ (kept : Name × Known). HoldsEvent (records ++ new ∷ []) kept.0 kept.1.event)
      (λ kept. holds_more records new kept.0 kept.1.event) names h.events

  events_put : (new : Record) (name : Name) (known : Known) → HoldsEvent (records ++ new ∷ []) name known.event → All (λ kept. HoldsEvent (records ++ new ∷ []) kept.0 kept.1.event) (put_known names name known)
  events_put new name known holds =
      All-inserted (λ one other. is_named one.origin one.tag other) named-Decides (λ kept. HoldsEvent (records ++ new ∷ []) kept.0 kept.1.event) names name known (events_more new) holds

  -- One more event

  module _ (now : OtherPlaces) (name : Name) (payload : ℕ × ℤ) (event : ℕ) (own own_now : Heard) (n : NotesEvent records name payload (known_of name names).event event others now own own_now) where
    abbrev event_said : Record
    event_said = Event name.origin name.tag payload.0 payload.1

    abbrev event_names : List (Name × Known)
    event_names = put_known names name (with_event_at event (known_of name names))

    not_said : (other : Record) → ((p : ℕ × ℤ) → Event name.origin name.tag p.0 p.1 ≢ other) → same_record event_said other ≡ false
    not_said other apart = false_from_ne_true (same_record event_said other) (λ e. apart payload ((same_record-Decides event_said other).0 e))

    -- the other records are found as before
    other_same : (other : Record) → ((p : ℕ × ℤ) → Event name.origin name.tag p.0 p.1 ≢ other) → other_place now other ≡ other_place others other
    other_same other apart =
        ap (λ b. if b then Some event else other_place now other) (sym (stands_apart (records ++ event_said ∷ []) name event other n.holds apart))
        ∙ n.places other
        ∙ ap (λ b. if b then Some (length records + 1) else event_place records (known_of name names).event others other) (not_said other apart)
        ∙ ap (λ b. if b then Some (known_of name names).event else other_place others other) (stands_apart records name (known_of name names).event other (holds_own records names name h.events) apart)

    event_placed : (other : Record) → place_in (records ++ event_said ∷ []) event_names now other ≡ (if same_record event_said other then Some (length records + 1) else place_in records names others other)
    event_placed (Event o t i v) = elim (cases_Bool (is_named o t name)) [
      | inl same ↦
          (let one : m ≡ name = (named-Decides m name).0 same in
          ap (λ (k : Known). event_place (records ++ event_said ∷ []) k.event now (Event o t i v)) (known_put name m names with_it ∙ ap (λ b. cond b with_it (known_of m names)) same)
          ∙ n.places (Event o t i v)
          ∙ ap (λ (x : Name). if same_record event_said (Event o t i v) then Some (length records + 1) else event_place records (known_of x names).event others (Event o t i v)) (sym one))
      | inr differs ↦
          (let apart : (p : ℕ × ℤ) → Event name.origin name.tag p.0 p.1 ≢ Event o t i v = (λ p e. both_ways (is_named o t name) differs ((named-Decides m name).1 (named_alike p e))) in
          ap (λ (k : Known). event_place (records ++ event_said ∷ []) k.event now (Event o t i v)) (known_put name m names with_it ∙ ap (λ b. cond b with_it (known_of m names)) differs)
          ∙ ap (λ b. if b then Some (known_of m names).event else other_place now (Event o t i v)) (stands_same event_said (Event o t i v) m)
          ∙ ap (λ (p : Option ℕ). if stands records (known_of m names).event (Event o t i v) then Some (known_of m names).event else p) (other_same (Event o t i v) apart)
          ∙ ap (λ b. if b then Some (length records + 1) else event_place records (known_of m names).event others (Event o t i v)) (sym (not_said (Event o t i v) apart)))
    ]
      where
        m : Name
        m = record { origin = o; tag = t }

        with_it : Known
        with_it = with_event_at event (known_of name names)

        named_alike : (p : ℕ × ℤ) → Event name.origin name.tag p.0 p.1 ≡ Event o t i v → m ≡ name
        named_alike p e =
            let origins : name.origin ≡ o = cc in
            let tags : name.tag ≡ t = cc in
            λ j. record { origin = sym origins j; tag = sym tags j }
    event_placed (Withdraw o t) = ap (λ (k : Known). withdrawal_place k.withdrawal) (known_put name m names with_it) ∙ by (is_named o t name) refl
      where
        m : Name
        m = record { origin = o; tag = t }

        with_it : Known
        with_it = with_event_at event (known_of name names)

        by : (b : Bool) → is_named o t name ≡ b → withdrawal_place (cond b with_it (known_of m names)).withdrawal ≡ withdrawal_place (known_of m names).withdrawal
        by true same = ap (λ (x : Name). withdrawal_place (known_of x names).withdrawal) (sym ((named-Decides m name).0 same))
        by false differs = refl
    event_placed (Announce o t events withdrawn) = other_same (Announce o t events withdrawn) (λ p e. cc)
    event_placed (Joint t events withdrawn) = other_same (Joint t events withdrawn) (λ p e. cc)

    pub event_places : (Contains records event_said → ⊥) → KeepsPlaces (records ++ event_said ∷ []) event_names now
    event_places lacks = kept_places records names event_names others now event_said lacks event_placed (events_put event_said name (with_event_at event (known_of name names)) n.holds) h

  -- One more withdrawal

  module _ (name : Name) where
    abbrev gone : Record
    gone = Withdraw name.origin name.tag

    abbrev gone_known : Known
    gone_known = with_withdrawal_at (length records + 1) (known_of name names)

    abbrev gone_names : List (Name × Known)
    gone_names = put_known names name gone_known

    last_withdrawal : withdrawal_place (length records + 1) ≡ Some (length records + 1)
    last_withdrawal =
        let some : (length records + 1 == 0) ≡ false = false_from_ne_true (length records + 1 == 0) (λ e. omega (arith, (Decides-eqb (length records + 1) 0).0 e)) in
        ap (λ b. if b then None else Some (length records + 1)) some

    withdrawal_placed : (other : Record) → place_in (records ++ gone ∷ []) gone_names others other ≡ (if same_record gone other then Some (length records + 1) else place_in records names others other)
    withdrawal_placed (Event o t i v) =
        ap (λ (e : ℕ). event_place (records ++ gone ∷ []) e others (Event o t i v)) (ap (λ (k : Known). k.event) (known_put name m names gone_known) ∙ by (is_named o t name) refl)
        ∙ ap (λ b. if b then Some (known_of m names).event else other_place others (Event o t i v)) (stands_same gone (Event o t i v) m)
      where
        m : Name
        m = record { origin = o; tag = t }

        by : (b : Bool) → is_named o t name ≡ b → (cond b gone_known (known_of m names)).event ≡ (known_of m names).event
        by true same = ap (λ (x : Name). (known_of x names).event) (sym ((named-Decides m name).0 same))
        by false differs = refl
    withdrawal_placed (Withdraw o t) = ap (λ (k : Known). withdrawal_place k.withdrawal) (known_put name m names gone_known) ∙ by (is_named o t name) refl
      where
        m : Name
        m = record { origin = o; tag = t }

        by : (b : Bool) → is_named o t name ≡ b → withdrawal_place (cond b gone_known (known_of m names)).withdrawal ≡ (if same_record gone (Withdraw o t) then Some (length records + 1) else withdrawal_place (known_of m names).withdrawal)
        by true same =
            let one : m ≡ name = (named-Decides m name).0 same in
            let is : same_record gone (Withdraw o t) ≡ true = (same_record-Decides gone (Withdraw o t)).1 (λ j. Withdraw (sym one j).origin (sym one j).tag) in
            last_withdrawal ∙ sym (ap (λ b. if b then Some (length records + 1) else withdrawal_place (known_of m names).withdrawal) is)
        by false differs =
            let unlike : same_record gone (Withdraw o t) ≡ false = false_from_ne_true (same_record gone (Withdraw o t)) (λ e. both_ways (is_named o t name) differs ((named-Decides m name).1 (alike ((same_record-Decides gone (Withdraw o t)).0 e)))) in
            sym (ap (λ b. if b then Some (length records + 1) else withdrawal_place (known_of m names).withdrawal) unlike)
          where
            alike : gone ≡ Withdraw o t → m ≡ name
            alike e =
                let origins : name.origin ≡ o = cc in
                let tags : name.tag ≡ t = cc in
                λ j. record { origin = sym origins j; tag = sym tags j }
    withdrawal_placed (Announce o t events withdrawn) = refl
    withdrawal_placed (Joint t events withdrawn) = refl

    pub withdrawal_places : (Contains records gone → ⊥) → KeepsPlaces (records ++ gone ∷ []) gone_names others
    withdrawal_places lacks = kept_places records names gone_names others others gone lacks withdrawal_placed (events_put gone name gone_known (holds_more records gone name (known_of name names).event (holds_own records names name h.events))) h

  -- One more announcement

  module _ (origin : ℕ) (tag : Moment) (events withdrawn : ℕ) where
    abbrev told : Record
    told = Announce origin tag events withdrawn

    announcement_placed : (other : Record) → place_in (records ++ told ∷ []) names (put_other others told (length records + 1)) other ≡ (if same_record told other then Some (length records + 1) else place_in records names others other)
    announcement_placed (Event o t i v) =
        ap (λ b. if b then Some (known_of m names).event else other_place (put_other others told (length records + 1)) (Event o t i v)) (stands_same told (Event o t i v) m)
        ∙ ap (λ (p : Option ℕ). if stands records (known_of m names).event (Event o t i v) then Some (known_of m names).event else p) (other_put others told (Event o t i v) (length records + 1))
      where
        m : Name
        m = record { origin = o; tag = t }
    announcement_placed (Withdraw o t) = refl
    announcement_placed (Announce o t e w) =
        other_put others told (Announce o t e w) (length records + 1)
        ∙ ap (λ b. if b then Some (length records + 1) else other_place others (Announce o t e w)) (same_either (Announce o t e w) told)
    announcement_placed (Joint t e w) =
        other_put others told (Joint t e w) (length records + 1)
        ∙ ap (λ b. if b then Some (length records + 1) else other_place others (Joint t e w)) (same_either (Joint t e w) told)

    pub announcement_places : (Contains records told → ⊥) → KeepsPlaces (records ++ told ∷ []) names (put_other others told (length records + 1))
    announcement_places lacks = kept_places records names names others (put_other others told (length records + 1)) told lacks announcement_placed (events_more told) h

  -- One more joint announcement

  module _ (tag : Moment) (events withdrawn : ℕ) where
    abbrev joint_told : Record
    joint_told = Joint tag events withdrawn

    joint_placed : (other : Record) → place_in (records ++ joint_told ∷ []) names (put_other others joint_told (length records + 1)) other ≡ (if same_record joint_told other then Some (length records + 1) else place_in records names others other)
    joint_placed (Event o t i v) =
        ap (λ b. if b then Some (known_of m names).event else other_place (put_other others joint_told (length records + 1)) (Event o t i v)) (stands_same joint_told (Event o t i v) m)
        ∙ ap (λ (p : Option ℕ). if stands records (known_of m names).event (Event o t i v) then Some (known_of m names).event else p) (other_put others joint_told (Event o t i v) (length records + 1))
      where
        m : Name
        m = record { origin = o; tag = t }
    joint_placed (Withdraw o t) = refl
    joint_placed (Announce o t e w) =
        other_put others joint_told (Announce o t e w) (length records + 1)
        ∙ ap (λ b. if b then Some (length records + 1) else other_place others (Announce o t e w)) (same_either (Announce o t e w) joint_told)
    joint_placed (Joint t e w) =
        other_put others joint_told (Joint t e w) (length records + 1)
        ∙ ap (λ b. if b then Some (length records + 1) else other_place others (Joint t e w)) (same_either (Joint t e w) joint_told)

    pub joint_places : (Contains records joint_told → ⊥) → KeepsPlaces (records ++ joint_told ∷ []) names (put_other others joint_told (length records + 1))
    joint_places lacks = kept_places records names names others (put_other others joint_told (length records + 1)) joint_told lacks joint_placed (events_more joint_told) h
