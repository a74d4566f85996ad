-- What is heard of origins, and of a record's own origin, with one record that is new.
use Rattle.std.proofs.Common.{◌≡◌, ◌⊎◌, inl, inr, ℕ, ℤ, ◌<◌, ◌≤◌, Bool, true, false, is_some, Option, Some, None, List, [], ◌∷◌, ◌++◌, length, get_or, set, Contains, IsTrue, refl, sym, ap, subst, ◌∙◌, arith}
use Rattle.std.specs.Prelude.{◌↔◌}
use Rattle.std.specs.Map.{lookup}
use Rattle.std.specs.Option.{unwrap_or}
use Rattle.std.proofs.lemmas.Bool.{cases_eq, false≢true}
use Rattle.std.proofs.lemmas.List.{get_or-set_other, get_or-set_same, get_or_default}
use Rattle.std.proofs.Math.ListN.{length-set}
use Rattle.warp_tag.specs.Limits.{most_origins, widest}
use Rattle.warp_tag.specs.Moment.{Moment}
use Rattle.warp_tag.specs.Table.{fresh}
use Rattle.warp_tag.specs.declared.entry.Entry.{Entry}
use Rattle.warp_record.specs.declared.record.Record.{Record}
use Rattle.warp_record.specs.declared.record.Record.TheVariants.{Event, Withdraw, Announce, Joint}
use Rattle.warp_table.specs.Records.{Records, IsIn, set_of}
use Rattle.warp_table.specs.Names.{HasEvent, Tells, TellsPayload, origin_or_first}
use Rattle.warp_table.specs.declared.names.Name.{Name}
use Rattle.warp_table.specs.inner.Heard.{Announced, AreHeard, Heard, IsHeard, heard_at, nothing_heard, with_heard_event, with_tag}
use Rattle.warp_table.specs.inner.Kept.{KeepsNames, is_named, kept_of}
use Rattle.warp_table.specs.inner.News.{IsNewsOf}
use Rattle.warp_table.proofs.Heard.{heard_announcement, heard_elsewhere, heard_event, heard_joint, heard_new_payload, heard_withdrawal, with_one}
use Rattle.warp_table.proofs.Sets.{in_set}

-- An event of the name

-- what a set tells of a name has an event exactly if the set has one
pub payload_told : (S : Records) (origin : ℕ) (tag : Moment) (payload : Option (ℕ × ℤ)) → TellsPayload S origin tag payload → IsTrue (is_some payload) ↔ ((p : ℕ × ℤ) × HasEvent S origin tag p)
payload_told S origin tag None told = (λ h. absurd (false≢true h), λ h. absurd (told h.0 h.1))
payload_told S origin tag (Some p) told = (λ h. (p, told.0), λ h. refl)

-- what is kept of a name has an event exactly if the set has one
pub event_kept : (S : Records) (name : Name) (known : Option Entry) → Tells S name.origin name.tag known →
    IsTrue (is_some (unwrap_or known (fresh name.origin name.tag)).event) ↔ ((p : ℕ × ℤ) × HasEvent S name.origin name.tag p)
event_kept S name None keeps = (λ h. absurd (false≢true h), λ h. absurd (keeps (Event name.origin name.tag h.0.0 h.0.1) h.1 (refl, refl)))
event_kept S name (Some known) keeps = payload_told S name.origin name.tag known.event keeps.payload

-- a record that a list lacks is not in its set
not_in_set : (records : List Record) (said : Record) → (Contains records said → ⊥) → IsIn (set_of records) said → ⊥
not_in_set records said new is = new ((in_set records said).1 is)

-- The record's own origin

-- an event of a name that has none, by what is kept of the name, is new to its origin
pub event_new : (records : List Record) (names : List (Name × Entry)) (own : Heard) (origin : ℕ) (tag : Moment) → KeepsNames records names → IsHeard (set_of records) origin own →
    is_some (kept_of (record { origin = origin; tag = tag }) names).event ≡ false → Contains own.events tag → ⊥
event_new records names own origin tag kept heard none has =
    let name : Name = record { origin = origin; tag = tag } in
    let there = (event_kept (set_of records) name (lookup (is_named origin tag) names) (kept.each origin tag)).1 ((heard.events tag).0 has) in
    false≢true (sym none ∙ there)

-- what is heard of an event's origin with it
pub own_event : (records : List Record) (names : List (Name × Entry)) (own : Heard) (origin : ℕ) (tag : Moment) (input : ℕ) (value : ℤ) (has : Bool) → IsNewsOf records names own (Event origin tag input value) →
    is_some (kept_of (record { origin = origin; tag = tag }) names).event ≡ has →
    IsHeard (set_of (records ++ Event origin tag input value ∷ [])) origin (with_heard_event has tag own)
own_event records names own origin tag input value true news is =
    let said : Record = Event origin tag input value in
    let name : Name = record { origin = origin; tag = tag } in
    let event = (event_kept (set_of records) name (lookup (is_named origin tag) names) (news.kept.each origin tag)).0 is in
    heard_new_payload (set_of records) origin tag input value (set_of (records ++ said ∷ [])) own (with_one records said) (not_in_set records said news.new)
    ((news.heard.events tag).1 event) news.heard
own_event records names own origin tag input value false news is =
    let said : Record = Event origin tag input value in
    heard_event (set_of records) origin tag input value (set_of (records ++ said ∷ [])) own (with_one records said) (event_new records names own origin tag news.kept news.heard is) news.heard

-- a withdrawal that a list lacks is new to its origin
pub withdrawal_new : (records : List Record) (names : List (Name × Entry)) (own : Heard) (origin : ℕ) (tag : Moment) → IsNewsOf records names own (Withdraw origin tag) → Contains own.withdrawn tag → ⊥
withdrawal_new records names own origin tag news has = not_in_set records (Withdraw origin tag) news.new ((news.heard.withdrawn tag).0 has)

-- what is heard of a withdrawal's origin with it
pub own_withdrawal : (records : List Record) (names : List (Name × Entry)) (own : Heard) (origin : ℕ) (tag : Moment) → IsNewsOf records names own (Withdraw origin tag) →
    IsHeard (set_of (records ++ Withdraw origin tag ∷ [])) origin (record own { withdrawn = with_tag tag own.withdrawn })
own_withdrawal records names own origin tag news =
    heard_withdrawal (set_of records) origin tag (set_of (records ++ Withdraw origin tag ∷ [])) own (with_one records (Withdraw origin tag)) (withdrawal_new records names own origin tag news) news.heard

-- what is heard of an announcement's origin with it
pub own_announcement : (records : List Record) (names : List (Name × Entry)) (own : Heard) (origin : ℕ) (tag : Moment) (events withdrawn : ℕ) (announced : List Announced) → IsNewsOf records names own (Announce origin tag events withdrawn) →
    ((a : Announced) → Contains announced a ↔ Contains own.announced a ⊎ (a ≡ record { tag = tag; events = events; withdrawn = withdrawn })) →
    IsHeard (set_of (records ++ Announce origin tag events withdrawn ∷ [])) origin (record own { announced = announced })
own_announcement records names own origin tag events withdrawn announced news adds =
    let said : Record = Announce origin tag events withdrawn in
    heard_announcement (set_of records) origin tag events withdrawn (set_of (records ++ said ∷ [])) own announced (with_one records said) adds news.heard

-- All origins

-- a joint announcement is heard by none of them
pub all_heard_joint : (records : List Record) (heards : List Heard) (tag : Moment) (events withdrawn : ℕ) → AreHeard records heards → AreHeard (records ++ Joint tag events withdrawn ∷ []) heards
all_heard_joint records heards tag events withdrawn all = record {
  few = all.few;
  each = λ origin. heard_joint (set_of records) tag events withdrawn (set_of (records ++ Joint tag events withdrawn ∷ [])) origin (heard_at heards origin) (with_one records (Joint tag events withdrawn)) (all.each origin);
}

-- what is looked up is what is heard of the origin
pub looked_up : (heards : List Heard) (index origin : ℕ) (own : Heard) → own ≡ get_or heards index own → index < length heards → index ≡ origin → own ≡ heard_at heards origin
looked_up heards index origin own here within same = here ∙ get_or_default heards index own nothing_heard within ∙ ap (heard_at heards) same

-- what is heard of a record's own origin
pub own_heard : (records : List Record) (old new : List Heard) (said : Record) (own : Heard) → ((origin : ℕ) → heard_at new origin ≡ heard_at old origin) → own ≡ heard_at new (origin_or_first said) →
    AreHeard records old → IsHeard (set_of records) (origin_or_first said) own
own_heard records old new said own same at heard = subst (λ (h : Heard). IsHeard (set_of records) (origin_or_first said) h) (sym (at ∙ same (origin_or_first said))) (heard.each (origin_or_first said))

-- with what is heard of its own origin, a record is heard
pub all_heard : (records : List Record) (old new : List Heard) (said : Record) (own : Heard) → ((origin : ℕ) → heard_at new origin ≡ heard_at old origin) → length new ≤ most_origins widest → origin_or_first said < length new →
    AreHeard records old → IsHeard (set_of (records ++ said ∷ [])) (origin_or_first said) own → AreHeard (records ++ said ∷ []) (set new (origin_or_first said) own)
all_heard records old new said own same few within all heard = record {
  few = omega (arith, length-set new (origin_or_first said) own);
  each = λ origin. elim (cases_eq (origin_or_first said) origin) [
    | inl here ↦ subst (λ (o : ℕ). IsHeard (set_of (records ++ said ∷ [])) o (heard_at (set new (origin_or_first said) own) o)) here
        (subst (λ (h : Heard). IsHeard (set_of (records ++ said ∷ [])) (origin_or_first said) h) (sym (get_or-set_same new (origin_or_first said) own nothing_heard within)) heard)
    | inr other ↦ subst (λ (h : Heard). IsHeard (set_of (records ++ said ∷ [])) origin h) (sym (get_or-set_other new (origin_or_first said) origin own nothing_heard (λ e. other (sym e)) ∙ same origin))
        (heard_elsewhere (set_of records) said (set_of (records ++ said ∷ [])) origin (heard_at old origin) (with_one records said) other (all.each origin))
  ];
}
