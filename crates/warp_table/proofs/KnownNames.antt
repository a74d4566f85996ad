-- What is known of names beside the names themselves, and their entries.
use Rattle.std.proofs.Common.{◌≡◌, inl, inr, ℕ, ℤ, ◌+◌, ◌==◌, false, not, List, [], ◌∷◌, ◌++◌, length, is_some, slice_get, Option, Some, None, refl, sym, ap, subst, ◌∙◌, arith}
use Rattle.std.specs.List.{All}
use Rattle.std.specs.Map.{lookup}
use Rattle.std.specs.Option.{option_map, unwrap_or}
use Rattle.std.proofs.lemmas.Bool.{cases_Bool, false_from_ne_true}
use Rattle.std.proofs.lemmas.Bool.Decides.{Decides-eqb}
use Rattle.std.proofs.lemmas.List.Elements.{All-head, All-tail}
use Rattle.std.proofs.lemmas.Option.{slice_get-map}
use Rattle.warp_tag.specs.Moment.{Moment}
use Rattle.warp_tag.specs.Table.{fresh, greater, with_event, with_withdrawal}
use Rattle.warp_tag.specs.declared.entry.Entry.{Entry}
use Rattle.warp_record.specs.declared.record.Record.{Record}
use Rattle.warp_record.specs.declared.record.Record.TheVariants.{Event, Withdraw, Announce, Joint}
use Rattle.warp_table.specs.declared.rows.Known.{Known}
use Rattle.warp_table.specs.declared.names.Name.{Name}
use Rattle.warp_table.specs.inner.Kept.{HoldsEvent, KeepsNames, entries_of, entry_of, is_named, kept_of, known_of, nothing_known, payload_at, payload_of, put, put_known, with_event_at, with_withdrawal_at}
use Rattle.warp_table.proofs.EventPlaces.{holds_own}
use Rattle.warp_table.proofs.FirstNames.{named-Decides}
use Rattle.warp_table.proofs.KeptNames.{IsTold, announcement_noted, joint_noted, event_noted, told_at, withdrawal_noted}
use Rattle.warp_table.proofs.Places.{record_same}

-- The entries of names beside a list of records

module _ (records : List Record) where
  -- the entry of a name is that of what is known of it
  pub looked_up : (name : Name) (names : List (Name × Known)) → lookup (is_named name.origin name.tag) (entries_of records names) ≡ option_map (entry_of records name) (lookup (is_named name.origin name.tag) names)
  looked_up name [] = refl
  looked_up name (e ∷ names) = elim (cases_Bool (is_named name.origin name.tag e.0)) [
    | inl same ↦ rw same (ap (λ (n : Name). Some (entry_of records n e.1)) (sym ((named-Decides name e.0).0 same)))
    | inr other ↦ rw other (looked_up name names)
  ]

  -- nothing known, and something
  of_option : (name : Name) (found : Option Known) → unwrap_or (option_map (entry_of records name) found) (fresh name.origin name.tag) ≡ entry_of records name (unwrap_or found nothing_known)
  of_option name None = refl
  of_option name (Some known) = refl

  pub kept_is : (name : Name) (names : List (Name × Known)) → kept_of name (entries_of records names) ≡ entry_of records name (known_of name names)
  kept_is name names = ap (λ (found : Option Entry). unwrap_or found (fresh name.origin name.tag)) (looked_up name names) ∙ of_option name (lookup (is_named name.origin name.tag) names)

  -- whether it has an event
  pub has_event : (name : Name) (names : List (Name × Known)) → is_some (kept_of name (entries_of records names)).event ≡ is_some (payload_at records (known_of name names).event)
  has_event name names = ap (λ (e : Entry). is_some e.event) (kept_is name names)

  -- what is put in, as entries
  put_is : (names : List (Name × Known)) (name : Name) (known : Known) → entries_of records (put_known names name known) ≡ put (entries_of records names) name (entry_of records name known)
  put_is [] name known = refl
  put_is (e ∷ names) name known = elim (cases_Bool (is_named name.origin name.tag e.0)) [
    | inl same ↦ rw same (ap (λ (n : Name). (e.0, entry_of records n known) ∷ entries_of records names) (sym ((named-Decides name e.0).0 same)))
    | inr other ↦ rw other (ap (λ (rest : List (Name × Entry)). (e.0, entry_of records e.0 e.1) ∷ rest) (put_is names name known))
  ]

-- one more record behind the others changes no entry
pub entries_same : (records : List Record) (new : Record) (names : List (Name × Known)) → All (λ kept. HoldsEvent records kept.0 kept.1.event) names → entries_of (records ++ new ∷ []) names ≡ entries_of records names
entries_same records new [] all = refl
entries_same records new (e ∷ names) all =
    let here : payload_at (records ++ new ∷ []) e.1.event ≡ payload_at records e.1.event =
    ap payload_of (record_same records new e.0 e.1.event (All-head (λ (kept : Name × Known). HoldsEvent records kept.0 kept.1.event) e names all)) in
    let rest = entries_same records new names (All-tail (λ (kept : Name × Known). HoldsEvent records kept.0 kept.1.event) e names all) in
    λ i. (e.0, record { origin = e.0.origin; tag = e.0.tag; event = here i; withdrawn = not (e.1.withdrawal == 0) }) ∷ rest i

-- so what is put in beside it is put in beside the old entries
put_more : (records : List Record) (new : Record) (names : List (Name × Known)) (name : Name) (known : Known) → All (λ kept. HoldsEvent records kept.0 kept.1.event) names →
    entries_of (records ++ new ∷ []) (put_known names name known) ≡ put (entries_of records names) name (entry_of (records ++ new ∷ []) name known)
put_more records new names name known all =
    put_is (records ++ new ∷ []) names name known ∙ ap (λ (es : List (Name × Entry)). put es name (entry_of (records ++ new ∷ []) name known)) (entries_same records new names all)

-- One more event, withdrawal, announcement

pub event_kept : (records : List Record) (names : List (Name × Known)) (name : Name) (payload : ℕ × ℤ) (event : ℕ) → All (λ kept. HoldsEvent records kept.0 kept.1.event) names →
    payload_at (records ++ Event name.origin name.tag payload.0 payload.1 ∷ []) event ≡ Some (greater (payload_at records (known_of name names).event) payload) → KeepsNames records (entries_of records names) →
    KeepsNames (records ++ Event name.origin name.tag payload.0 payload.1 ∷ []) (entries_of (records ++ Event name.origin name.tag payload.0 payload.1 ∷ []) (put_known names name (with_event_at event (known_of name names))))
event_kept records names name payload event all counts h =
    let said : Record = Event name.origin name.tag payload.0 payload.1 in
    let known : Known = known_of name names in
    let entry : entry_of (records ++ said ∷ []) name (with_event_at event known) ≡ with_event payload.0 payload.1 (entry_of records name known) =
    (λ i. record { origin = name.origin; tag = name.tag; event = counts i; withdrawn = not (known.withdrawal == 0) }) in
    let is : entries_of (records ++ said ∷ []) (put_known names name (with_event_at event known)) ≡ put (entries_of records names) name (with_event payload.0 payload.1 (kept_of name (entries_of records names))) =
    put_more records said names name (with_event_at event known) all
    ∙ ap (put (entries_of records names) name) (entry ∙ ap (with_event payload.0 payload.1) (sym (kept_is records name names))) in
    subst (KeepsNames (records ++ said ∷ [])) (sym is) (event_noted records (entries_of records names) name payload.0 payload.1 h)

pub withdrawal_kept : (records : List Record) (names : List (Name × Known)) (name : Name) → All (λ kept. HoldsEvent records kept.0 kept.1.event) names → KeepsNames records (entries_of records names) →
    KeepsNames (records ++ Withdraw name.origin name.tag ∷ []) (entries_of (records ++ Withdraw name.origin name.tag ∷ []) (put_known names name (with_withdrawal_at (length records + 1) (known_of name names))))
withdrawal_kept records names name all h =
    let said : Record = Withdraw name.origin name.tag in
    let known : Known = known_of name names in
    let now : Known = with_withdrawal_at (length records + 1) known in
    let same : payload_at (records ++ said ∷ []) known.event ≡ payload_at records known.event = ap payload_of (record_same records said name known.event (holds_own records names name all)) in
    let some : (length records + 1 == 0) ≡ false = false_from_ne_true (length records + 1 == 0) (λ e. omega (arith, (Decides-eqb (length records + 1) 0).0 e)) in
    let entry : entry_of (records ++ said ∷ []) name now ≡ with_withdrawal (entry_of records name known) =
    (λ i. record { origin = name.origin; tag = name.tag; event = same i; withdrawn = not (some i) }) in
    let is : entries_of (records ++ said ∷ []) (put_known names name now) ≡ put (entries_of records names) name (with_withdrawal (kept_of name (entries_of records names))) =
    put_more records said names name now all ∙ ap (put (entries_of records names) name) (entry ∙ ap with_withdrawal (sym (kept_is records name names))) in
    subst (KeepsNames (records ++ said ∷ [])) (sym is) (withdrawal_noted records (entries_of records names) name h)

pub announcement_kept : (records : List Record) (names : List (Name × Known)) (o : ℕ) (t : Moment) (events withdrawn : ℕ) → All (λ kept. HoldsEvent records kept.0 kept.1.event) names → KeepsNames records (entries_of records names) →
    KeepsNames (records ++ Announce o t events withdrawn ∷ []) (entries_of (records ++ Announce o t events withdrawn ∷ []) names)
announcement_kept records names o t events withdrawn all h =
    subst (KeepsNames (records ++ Announce o t events withdrawn ∷ [])) (sym (entries_same records (Announce o t events withdrawn) names all))
    (announcement_noted records (entries_of records names) o t events withdrawn h)

pub joint_kept : (records : List Record) (names : List (Name × Known)) (t : Moment) (events withdrawn : ℕ) → All (λ kept. HoldsEvent records kept.0 kept.1.event) names → KeepsNames records (entries_of records names) →
    KeepsNames (records ++ Joint t events withdrawn ∷ []) (entries_of (records ++ Joint t events withdrawn ∷ []) names)
joint_kept records names t events withdrawn all h =
    subst (KeepsNames (records ++ Joint t events withdrawn ∷ [])) (sym (entries_same records (Joint t events withdrawn) names all))
    (joint_noted records (entries_of records names) t events withdrawn h)

-- what is known of a name at a place is told there, as its entry
pub told_of : (records : List Record) (names : List (Name × Known)) (number : ℕ) (name : Name) (known : Known) → KeepsNames records (entries_of records names) → Some (name, known) ≡ slice_get names number
    → lookup (is_named name.origin name.tag) names ≡ Some known → IsTold records number (entry_of records name known)
told_of records names number name known h at found =
    let with_name : Name × Known → Name × Entry = λ kept. (kept.0, entry_of records kept.0 kept.1) in
    told_at records (entries_of records names) number name (entry_of records name known) h
    (ap (option_map with_name) at ∙ sym (slice_get-map with_name names number))
    (looked_up records name names ∙ ap (option_map (entry_of records name)) found)
