-- The names of a list of records in the order of their first coming, after one more record.
use Rattle.std.proofs.Common.{◌≡◌, inl, inr, ℕ, Bool, true, false, not, ◌==◌, ◌&&◌, ◌||◌, List, [], ◌∷◌, ◌++◌, filter, refl, sym, ap, ◌∙◌, if◌then◌else◌}
use Rattle.std.specs.Bool.{Decides}
use Rattle.std.specs.List.{list_any}
use Rattle.std.proofs.lemmas.Bool.{cases_Bool, both_ways, false_from_ne_true, or_from, or_left, or_right}
use Rattle.std.proofs.lemmas.Bool.Decides.{Decides-like}
use Rattle.std.proofs.lemmas.List.Elements.{filter-append}
use Rattle.std.proofs.lemmas.List.{append-nil}
use Rattle.warp_tag.specs.Moment.{Moment, is_same}
use Rattle.warp_tag.proofs.Lists.{filter-here, filter-past}
use Rattle.warp_record.specs.declared.record.Record.{Record}
use Rattle.warp_record.specs.declared.record.Record.TheVariants.{Event, Withdraw, Announce, Joint}
use Rattle.warp_table.specs.LogNames.{is_other, names_of}
use Rattle.warp_table.specs.declared.names.Name.{Name}
use Rattle.warp_table.specs.inner.Kept.{is_named}
use Rattle.warp_table.proofs.Sets.{same_name}

-- the names are one
abbrev pub is_one : ℕ × Moment → ℕ × Moment → Bool
is_one name other = name.0 == other.0 && is_same name.1 other.1

pub is_one-Decides : (name other : ℕ × Moment) → Decides (is_one name other) (name ≡ other)
is_one-Decides name other =
    Decides-like (is_one name other) (λ e i. (e.0 i, e.1 i)) (λ e. (ap (λ n. n.0) e, ap (λ n. n.1) e)) (same_name name.0 other.0 name.1 other.1)

-- the same of names as they are kept
pub named-Decides : (one other : Name) → Decides (is_named one.origin one.tag other) (one ≡ other)
named-Decides one other =
    Decides-like (is_named one.origin one.tag other) (λ e i. record { origin = (e i).0; tag = (e i).1 }) (λ e i. ((e i).origin, (e i).tag))
    (is_one-Decides (one.origin, one.tag) (other.origin, other.tag))

-- the names with this one, which comes last where it is new
abbrev pub with_name : List (ℕ × Moment) → ℕ × Moment → List (ℕ × Moment)
with_name names name = if list_any (is_one name) names then names else names ++ name ∷ []

-- the other names, without one that is none of them
any_other : (first name : ℕ × Moment) → is_one first name ≡ false → (names : List (ℕ × Moment)) → list_any (is_one name) (filter (is_other first) names) ≡ list_any (is_one name) names
any_other first name differs [] = refl
any_other first name differs (x ∷ names) = elim (cases_Bool (is_one first x)) [
  | inl same ↦
      let is : first ≡ x = (is_one-Decides first x).0 same in
      let unlike : is_one name x ≡ false = false_from_ne_true (is_one name x) (λ h. both_ways (is_one first name) differs ((is_one-Decides first name).1 (is ∙ sym ((is_one-Decides name x).0 h)))) in
      rw (same, unlike) (any_other first name differs names)
  | inr other ↦ rw other (ap (λ b. is_one name x || b) (any_other first name differs names))
]

with_known : (names : List (ℕ × Moment)) (name : ℕ × Moment) → list_any (is_one name) names ≡ true → with_name names name ≡ names
with_known names name h = ap (λ b. if b then names else names ++ name ∷ []) h

with_new : (names : List (ℕ × Moment)) (name : ℕ × Moment) → list_any (is_one name) names ≡ false → with_name names name ≡ names ++ name ∷ []
with_new names name h = ap (λ b. if b then names else names ++ name ∷ []) h

-- one more name behind a first one
module _ (first name : ℕ × Moment) (names : List (ℕ × Moment)) where
  abbrev others : List (ℕ × Moment)
  others = filter (is_other first) names

  behind : (ns : List (ℕ × Moment)) → with_name names name ≡ ns → (first ∷ filter (is_other first) (with_name names name)) ≡ (first ∷ filter (is_other first) ns)
  behind ns e = ap (λ rest. first ∷ filter (is_other first) rest) e

  is_first : is_one first name ≡ true → is_one name first ≡ true
  is_first same = (is_one-Decides name first).1 (sym ((is_one-Decides first name).0 same))

  not_first : is_one first name ≡ false → is_one name first ≡ false
  not_first differs = false_from_ne_true (is_one name first) (λ is. both_ways (is_one first name) differs ((is_one-Decides first name).1 (sym ((is_one-Decides name first).0 is))))

  among : list_any (is_one name) names ≡ true → list_any (is_one name) (first ∷ others) ≡ true
  among h = elim (cases_Bool (is_one first name)) [
    | inl same ↦ or_left (is_one name first) (list_any (is_one name) others) (is_first same)
    | inr differs ↦ or_right (is_one name first) (list_any (is_one name) others) (any_other first name differs names ∙ h)
  ]

  name_behind : (first ∷ filter (is_other first) (with_name names name)) ≡ with_name (first ∷ others) name
  name_behind = elim (cases_Bool (list_any (is_one name) names)) [
    | inl h ↦ behind names (with_known names name h) ∙ sym (with_known (first ∷ others) name (among h))
    | inr h ↦ elim (cases_Bool (is_one first name)) [
      | inl same ↦
          behind (names ++ name ∷ []) (with_new names name h)
          ∙ ap (λ rest. first ∷ rest) (filter-append (is_other first) names (name ∷ []) ∙ ap (λ rest. others ++ rest) (filter-past (is_other first) name [] (ap not same)) ∙ append-nil others)
          ∙ sym (with_known (first ∷ others) name (or_left (is_one name first) (list_any (is_one name) others) (is_first same)))
      | inr differs ↦
          behind (names ++ name ∷ []) (with_new names name h)
          ∙ ap (λ rest. first ∷ rest) (filter-append (is_other first) names (name ∷ []) ∙ ap (λ rest. others ++ rest) (filter-here (is_other first) name [] (ap not differs)))
          ∙ sym (with_new (first ∷ others) name (or_from (is_one name first) (list_any (is_one name) others) (not_first differs) (any_other first name differs names ∙ h)))
    ]
  ]

-- one more record of a name brings it where it is new
pub names_event : (records : List Record) (said : Record) (name : ℕ × Moment) → ((rest : List Record) → names_of (said ∷ rest) ≡ name ∷ filter (is_other name) (names_of rest)) → names_of (records ++ said ∷ []) ≡ with_name (names_of records) name
names_event [] said name h = h []
names_event (Event o t input value ∷ records) said name h = ap (λ names. (o, t) ∷ filter (is_other (o, t)) names) (names_event records said name h) ∙ name_behind (o, t) name (names_of records)
names_event (Withdraw o t ∷ records) said name h = ap (λ names. (o, t) ∷ filter (is_other (o, t)) names) (names_event records said name h) ∙ name_behind (o, t) name (names_of records)
names_event (Announce o t events withdrawn ∷ records) said name h = names_event records said name h
names_event (Joint t events withdrawn ∷ records) said name h = names_event records said name h

-- and an announcement brings none
pub names_announce : (records : List Record) (o : ℕ) (t : Moment) (events withdrawn : ℕ) → names_of (records ++ Announce o t events withdrawn ∷ []) ≡ names_of records
names_announce [] o t events withdrawn = refl
names_announce (Event p s input value ∷ records) o t events withdrawn = ap (λ names. (p, s) ∷ filter (is_other (p, s)) names) (names_announce records o t events withdrawn)
names_announce (Withdraw p s ∷ records) o t events withdrawn = ap (λ names. (p, s) ∷ filter (is_other (p, s)) names) (names_announce records o t events withdrawn)
names_announce (Announce p s other_events other_withdrawn ∷ records) o t events withdrawn = names_announce records o t events withdrawn
names_announce (Joint s other_events other_withdrawn ∷ records) o t events withdrawn = names_announce records o t events withdrawn

-- nor does a joint one
pub names_joint : (records : List Record) (t : Moment) (events withdrawn : ℕ) → names_of (records ++ Joint t events withdrawn ∷ []) ≡ names_of records
names_joint [] t events withdrawn = refl
names_joint (Event p s input value ∷ records) t events withdrawn = ap (λ names. (p, s) ∷ filter (is_other (p, s)) names) (names_joint records t events withdrawn)
names_joint (Withdraw p s ∷ records) t events withdrawn = ap (λ names. (p, s) ∷ filter (is_other (p, s)) names) (names_joint records t events withdrawn)
names_joint (Announce p s other_events other_withdrawn ∷ records) t events withdrawn = names_joint records t events withdrawn
names_joint (Joint s other_events other_withdrawn ∷ records) t events withdrawn = names_joint records t events withdrawn
