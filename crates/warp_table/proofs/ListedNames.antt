-- The names of a list of records are those of its events and withdrawals, each once.
use Rattle.std.proofs.Common.{◌≡◌, ◌≢◌, ◌⊎◌, inl, inr, ℕ, not, List, [], ◌∷◌, filter, get_or, Contains, sym, ap, subst, arith}
use Rattle.std.specs.Prelude.{◌↔◌}
use Rattle.std.specs.List.{AllPairs}
use Rattle.std.proofs.lemmas.Bool.{both_ways, cases_Bool, not-true}
use Rattle.std.proofs.lemmas.List.Elements.{filter_passes}
use Rattle.std.proofs.lemmas.List.Kept.{AllPairs-cons, AllPairs-filter}
use Rattle.warp_tag.specs.Moment.{Moment}
use Rattle.warp_record.specs.declared.record.Record.{Record}
use Rattle.warp_record.specs.declared.record.Record.TheVariants.{Event, Withdraw, Announce, Joint}
use Rattle.warp_table.specs.Names.{IsOf}
use Rattle.warp_table.specs.Records.{IsIn, set_of}
use Rattle.warp_table.specs.LogNames.{is_other, names_of}
use Rattle.warp_table.proofs.FirstNames.{is_one, is_one-Decides}
use Rattle.warp_table.proofs.Members.{Contains-cases, Contains-here, Contains-nil, Contains-there, kept_passes, passes_kept}
use Rattle.warp_table.proofs.Sets.{in_set}

-- a name in front of the others that differ from it: each stands once
name_first : (first : ℕ × Moment) (names : List (ℕ × Moment)) → AllPairs (λ a b. a ≢ b) names → AllPairs (λ a b. a ≢ b) (first ∷ filter (is_other first) names)
name_first first names once =
    AllPairs-cons (λ a b. a ≢ b) first (filter (is_other first) names)
    (λ i d below same. both_ways (is_one first (get_or (filter (is_other first) names) i d)) (not-true _ (filter_passes (is_other first) names i d below)) ((is_one-Decides first _).1 same))
    (AllPairs-filter (λ a b. a ≢ b) (is_other first) names once)

-- and it is there with all that were there
name_here : (first name : ℕ × Moment) (names : List (ℕ × Moment)) → first ≡ name → Contains (first ∷ filter (is_other first) names) name
name_here first name names is = subst (λ (n : ℕ × Moment). Contains (first ∷ filter (is_other first) names) n) is (Contains-here first (filter (is_other first) names))

name_kept : (first name : ℕ × Moment) (names : List (ℕ × Moment)) → Contains names name → Contains (first ∷ filter (is_other first) names) name
name_kept first name names there = elim (cases_Bool (is_one first name)) [
  | inl same ↦ name_here first name names ((is_one-Decides first name).0 same)
  | inr differs ↦ Contains-there first (filter (is_other first) names) name (passes_kept (is_other first) names name there (ap not differs))
]

-- and no other
name_from : (first name : ℕ × Moment) (names : List (ℕ × Moment)) → Contains (first ∷ filter (is_other first) names) name → (first ≡ name) ⊎ Contains names name
name_from first name names has = elim (Contains-cases first (filter (is_other first) names) name has) [
  | inl is ↦ inl is
  | inr behind ↦ inr (kept_passes (is_other first) names name behind).0
]

-- no name stands at two places
pub names_differ : (records : List Record) → AllPairs (λ a b. a ≢ b) (names_of records)
names_differ [] = λ i j d below within. absurd (omega (arith, within))
names_differ (Event o t input value ∷ records) = name_first (o, t) (names_of records) (names_differ records)
names_differ (Withdraw o t ∷ records) = name_first (o, t) (names_of records) (names_differ records)
names_differ (Announce o t events withdrawn ∷ records) = names_differ records
names_differ (Joint t events withdrawn ∷ records) = names_differ records

-- a record of the name is in the list
abbrev HasRecord : List Record → ℕ → Moment → Type 0
HasRecord records origin tag = (said : Record) × Contains records said × IsOf origin tag said

module _ (origin : ℕ) (tag : Moment) where
  record_behind : (first : Record) (records : List Record) → HasRecord records origin tag → HasRecord (first ∷ records) origin tag
  record_behind first records h = (h.0, Contains-there first records h.0 h.1, h.2)

  -- each name has a record
  has_record : (records : List Record) → Contains (names_of records) (origin, tag) → HasRecord records origin tag
  has_record [] has = absurd (Contains-nil (origin, tag) has)
  has_record (Event o t input value ∷ records) has = elim (name_from (o, t) (origin, tag) (names_of records) has) [
    | inl is ↦ (Event o t input value, Contains-here (Event o t input value) records, (ap (λ n. n.0) is, ap (λ n. n.1) is))
    | inr there ↦ record_behind (Event o t input value) records (has_record records there)
  ]
  has_record (Withdraw o t ∷ records) has = elim (name_from (o, t) (origin, tag) (names_of records) has) [
    | inl is ↦ (Withdraw o t, Contains-here (Withdraw o t) records, (ap (λ n. n.0) is, ap (λ n. n.1) is))
    | inr there ↦ record_behind (Withdraw o t) records (has_record records there)
  ]
  has_record (Announce o t events withdrawn ∷ records) has = record_behind (Announce o t events withdrawn) records (has_record records has)
  has_record (Joint t events withdrawn ∷ records) has = record_behind (Joint t events withdrawn) records (has_record records has)

  -- the first record is of the name, or one behind it
  first_or_behind : (first : Record) (records : List Record) → HasRecord (first ∷ records) origin tag → IsOf origin tag first ⊎ HasRecord records origin tag
  first_or_behind first records h = elim (Contains-cases first records h.0 h.1) [
    | inl is ↦ inl (subst (λ (said : Record). IsOf origin tag said) (sym is) h.2)
    | inr there ↦ inr (h.0, there, h.2)
  ]

  -- and each record its name
  has_name : (records : List Record) → HasRecord records origin tag → Contains (names_of records) (origin, tag)
  has_name [] h = absurd (Contains-nil h.0 h.1)
  has_name (Event o t input value ∷ records) h = elim (first_or_behind (Event o t input value) records h) [
    | inl is ↦ name_here (o, t) (origin, tag) (names_of records) (λ i. (is.0 i, is.1 i))
    | inr there ↦ name_kept (o, t) (origin, tag) (names_of records) (has_name records there)
  ]
  has_name (Withdraw o t ∷ records) h = elim (first_or_behind (Withdraw o t) records h) [
    | inl is ↦ name_here (o, t) (origin, tag) (names_of records) (λ i. (is.0 i, is.1 i))
    | inr there ↦ name_kept (o, t) (origin, tag) (names_of records) (has_name records there)
  ]
  has_name (Announce o t events withdrawn ∷ records) h = elim (first_or_behind (Announce o t events withdrawn) records h) [
    | inl none ↦ absurd none
    | inr there ↦ has_name records there
  ]
  has_name (Joint t events withdrawn ∷ records) h = elim (first_or_behind (Joint t events withdrawn) records h) [
    | inl none ↦ absurd none
    | inr there ↦ has_name records there
  ]

-- a name is among those of the list where a record of it is in the list's set
pub names_each : (records : List Record) (origin : ℕ) (tag : Moment)
    → Contains (names_of records) (origin, tag) ↔ ((said : Record) × IsIn (set_of records) said × IsOf origin tag said)
names_each records origin tag = (
  λ has. let h = has_record origin tag records has in (h.0, (in_set records h.0).0 h.1, h.2),
  λ h. has_name origin tag records (h.0, (in_set records h.0).1 h.1, h.2),
)
