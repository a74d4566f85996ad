-- What a table keeps of names, after one more record.
use Rattle.std.proofs.Common.{◌≡◌, inl, inr, ℕ, ℤ, Bool, true, false, cond, filter, List, [], ◌∷◌, ◌++◌, map, slice_get, Option, Some, refl, sym, ap, subst, ◌∙◌, if◌then◌else◌}
use Rattle.std.specs.List.{list_any}
use Rattle.std.specs.Map.{lookup}
use Rattle.std.specs.Option.{option_map, unwrap_or}
use Rattle.std.proofs.lemmas.Bool.{cases_Bool, both_ways}
use Rattle.std.proofs.lemmas.Option.{slice_get-map}
use Rattle.warp_tag.specs.Moment.{Moment}
use Rattle.warp_tag.specs.Table.{fresh, with_event, with_withdrawal}
use Rattle.warp_tag.specs.declared.entry.Entry.{Entry}
use Rattle.warp_record.specs.declared.record.Record.{Record}
use Rattle.warp_record.specs.declared.record.Record.TheVariants.{Event, Withdraw, Announce, Joint}
use Rattle.warp_table.specs.Names.{IsOf, Tells, TellsEntry}
use Rattle.warp_table.specs.Records.{set_of}
use Rattle.warp_table.specs.LogNames.{is_other, names_of}
use Rattle.warp_table.specs.declared.names.Name.{Name}
use Rattle.warp_table.specs.inner.Kept.{KeepsNames, is_named, kept_of, put}
use Rattle.warp_table.proofs.FirstNames.{is_one, is_one-Decides, named-Decides, names_announce, names_joint, names_event, with_name}
use Rattle.warp_table.proofs.Places.{lookup_inserted}
use Rattle.warp_table.proofs.Sets.{set_append}
use Rattle.warp_table.proofs.Told.{event_told, other_told, withdrawal_told, with_one}

-- the name of what is kept
abbrev name_of : Name × Entry → ℕ × Moment
name_of kept = (kept.0.origin, kept.0.tag)

-- one of two lists behind an element
behind_one : {X : Type 0} (x : X) (b : Bool) (xs ys : List X) → (x ∷ (if b then xs else ys)) ≡ (if b then x ∷ xs else x ∷ ys)
behind_one x true xs ys = refl
behind_one x false xs ys = refl

-- an insertion brings the name where it is new
names_inserted : (names : List (Name × Entry)) (name : Name) (k : Entry) → map name_of (put names name k) ≡ with_name (map name_of names) (name.origin, name.tag)
names_inserted [] name k = refl
names_inserted (e ∷ names) name k = elim (cases_Bool (is_named name.origin name.tag e.0)) [
  | inl same ↦ rw same refl
  | inr other ↦ rw other (ap (λ ns. name_of e ∷ ns) (names_inserted names name k)
      ∙ behind_one (name_of e) (list_any (is_one (name.origin, name.tag)) (map name_of names)) (map name_of names) (map name_of names ++ (name.origin, name.tag) ∷ []))
]

-- and changes what is kept of that name alone
kept_inserted : (o : ℕ) (t : Moment) (names : List (Name × Entry)) (name : Name) (k : Entry) → lookup (is_named o t) (put names name k) ≡ cond (is_named o t name) (Some k) (lookup (is_named o t) names)
kept_inserted o t names name k = lookup_inserted (λ one other. is_named one.origin one.tag other) named-Decides (record { origin = o; tag = t }) names name k

-- one more record of a name
kept_record : (records : List Record) (names : List (Name × Entry)) (said : Record) (name : Name) (f : Entry → Entry)
    → ((rest : List Record) → names_of (said ∷ rest) ≡ (name.origin, name.tag) ∷ filter (is_other (name.origin, name.tag)) (names_of rest))
    → ((o : ℕ) (t : Moment) → IsOf o t said → (name.origin ≡ o) × (name.tag ≡ t))
    → ((k : Option Entry) → Tells (set_of records) name.origin name.tag k → Tells (with_one (set_of records) said) name.origin name.tag (Some (f (unwrap_or k (fresh name.origin name.tag)))))
    → KeepsNames records names → KeepsNames (records ++ said ∷ []) (put names name (f (kept_of name names)))
kept_record records names said name f first only own h = record {
  order = names_inserted names name (f (kept_of name names)) ∙ ap (λ ns. with_name ns (name.origin, name.tag)) h.order ∙ sym (names_event records said (name.origin, name.tag) first);
  each = λ o t. subst (λ S. Tells S o t (lookup (is_named o t) (put names name (f (kept_of name names))))) (sym (set_append records (said ∷ [])))
      (subst (Tells (with_one (set_of records) said) o t) (sym (kept_inserted o t names name (f (kept_of name names)))) (each o t));
}
  where
    each : (o : ℕ) (t : Moment) → Tells (with_one (set_of records) said) o t (cond (is_named o t name) (Some (f (kept_of name names))) (lookup (is_named o t) names))
    each o t = elim (cases_Bool (is_named o t name)) [
      | inl n ↦
          rw n (subst (λ (p : ℕ × Moment). Tells (with_one (set_of records) said) p.0 p.1 (Some (f (kept_of name names)))) (sym ((is_one-Decides (o, t) (name.origin, name.tag)).0 n))
          (own (lookup (is_named name.origin name.tag) names) (h.each name.origin name.tag)))
      | inr n ↦
          rw n (other_told (set_of records) said o t
          (λ of. let is = only o t of in both_ways (is_named o t name) n ((is_one-Decides (o, t) (name.origin, name.tag)).1 (λ i. (sym is.0 i, sym is.1 i))))
          (lookup (is_named o t) names) (h.each o t))
    ]

-- one more event, withdrawal, announcement
pub event_noted : (records : List Record) (names : List (Name × Entry)) (name : Name) (input : ℕ) (value : ℤ) → KeepsNames records names
    → KeepsNames (records ++ Event name.origin name.tag input value ∷ []) (put names name (with_event input value (kept_of name names)))
event_noted records names name input value h =
    kept_record records names (Event name.origin name.tag input value) name (with_event input value) (λ rest. refl) (λ o t of. of) (event_told (set_of records) name.origin name.tag input value) h

pub withdrawal_noted : (records : List Record) (names : List (Name × Entry)) (name : Name) → KeepsNames records names
    → KeepsNames (records ++ Withdraw name.origin name.tag ∷ []) (put names name (with_withdrawal (kept_of name names)))
withdrawal_noted records names name h =
    kept_record records names (Withdraw name.origin name.tag) name with_withdrawal (λ rest. refl) (λ o t of. of) (withdrawal_told (set_of records) name.origin name.tag) h

pub announcement_noted : (records : List Record) (names : List (Name × Entry)) (o : ℕ) (t : Moment) (events withdrawn : ℕ) → KeepsNames records names → KeepsNames (records ++ Announce o t events withdrawn ∷ []) names
announcement_noted records names o t events withdrawn h = record {
  order = h.order ∙ sym (names_announce records o t events withdrawn);
  each = λ p s. subst (λ S. Tells S p s (lookup (is_named p s) names)) (sym (set_append records (Announce o t events withdrawn ∷ [])))
      (other_told (set_of records) (Announce o t events withdrawn) p s (λ of. of) (lookup (is_named p s) names) (h.each p s));
}

pub joint_noted : (records : List Record) (names : List (Name × Entry)) (t : Moment) (events withdrawn : ℕ) → KeepsNames records names → KeepsNames (records ++ Joint t events withdrawn ∷ []) names
joint_noted records names t events withdrawn h = record {
  order = h.order ∙ sym (names_joint records t events withdrawn);
  each = λ p s. subst (λ S. Tells S p s (lookup (is_named p s) names)) (sym (set_append records (Joint t events withdrawn ∷ [])))
      (other_told (set_of records) (Joint t events withdrawn) p s (λ of. of) (lookup (is_named p s) names) (h.each p s));
}

-- the entry is of the name that came at this place, and is what the set tells of it
pub record IsTold (records : List Record) (number : ℕ) (e : Entry) : Type 0 where
  pub at : slice_get (names_of records) number ≡ Some (e.origin, e.tag)
  pub told : TellsEntry (set_of records) e.origin e.tag e

-- what is kept at a place is told there
pub told_at : (records : List Record) (names : List (Name × Entry)) (number : ℕ) (name : Name) (known : Entry) → KeepsNames records names → Some (name, known) ≡ slice_get names number → lookup (is_named name.origin name.tag) names ≡ Some known → IsTold records number known
told_at records names number name known h at found =
    let kept = subst (Tells (set_of records) name.origin name.tag) found (h.each name.origin name.tag) in
    let is : (name.origin, name.tag) ≡ (known.origin, known.tag) = (λ i. (sym kept.origin_is i, sym kept.tag_is i)) in
    record {
      at = sym (ap (λ ns. slice_get ns number) h.order) ∙ slice_get-map name_of names number ∙ ap (option_map name_of) (sym at) ∙ ap Some is;
      told = subst (λ (p : ℕ × Moment). TellsEntry (set_of records) p.0 p.1 known) is kept;
    }
