-- What is known of the names of a table, put into an empty table in any order, gives that table.
use Rattle.std.proofs.Common.{◌≡◌, ◌⊎◌, inl, inr, ℕ, ℤ, ◌+◌, ◌≤◌, Bool, true, false, cond, List, [], ◌∷◌, All, Contains}
use Rattle.std.proofs.Common.{fold, length, Option, Some, None, refl, sym, ap, subst, ◌∙◌, arith}
use Rattle.std.specs.Option.{unwrap_or}
use Rattle.std.proofs.lemmas.Bool.{both_ways, cases_Bool}
use Rattle.std.proofs.lemmas.List.Elements.{All-contains}
use Rattle.warp_tag.specs.Moment.{Moment}
use Rattle.warp_tag.specs.Table.{IsTable, fresh, has_name, is_lesser, known, with_event, with_withdrawal}
use Rattle.warp_tag.specs.declared.entry.Entry.{Entry}
use Rattle.warp_tag.proofs.Known.{known_changed, known_elsewhere, same_table}
use Rattle.warp_tag.proofs.Lists.{some_not_none}
use Rattle.warp_tag.proofs.Names.{named_is}
use Rattle.warp_tag.proofs.Tables.{length-changed, table_changed, with_event_names}
use Rattle.warp_record.specs.declared.record.Record.{Record}
use Rattle.warp_record.specs.declared.record.Record.TheVariants.{Event, Withdraw, Announce, Joint}
use Rattle.warp_step.specs.Program.{Program}
use Rattle.warp_table.specs.Check.{refusal_of}
use Rattle.warp_table.specs.Names.{IsOf, Tells, TellsPayload}
use Rattle.warp_table.specs.Records.{IsIn, Records, set_of}
use Rattle.warp_table.specs.LogNames.{table_of, with_record}
use Rattle.warp_table.proofs.Members.{Contains-cases, Contains-here, Contains-there}
use Rattle.warp_table.proofs.Sets.{in_set}
use Rattle.warp_table.proofs.Told.{is_table, known_by_set, told_once, with_withdrawal_names}
use Rattle.warp_replica.specs.Rebuilding.{IsAllowedName, event_of, with_mark, with_name, with_payload, withdrawal_of}
use Rattle.warp_replica.specs.Replica.{AreAllowed}

same_either : {X : Type 0} (b : Bool) (x : X) → cond b x x ≡ x
same_either true x = refl
same_either false x = refl

-- what is known of one name after a change of its own, and after a change of another one
module _ (o : ℕ) (t : Moment) where
  -- nothing is known, or this
  abbrev pub KnowsOnly : Entry → List Entry → Type 0
  KnowsOnly e table = (known o t table ≡ None) ⊎ (known o t table ≡ Some e)

  -- with its payload
  payload_goes : (event : Option (ℕ × ℤ)) (up : Bool) (table : List Entry) → IsTable table
      → KnowsOnly (record { origin = o; tag = t; event = event; withdrawn = up }) table
      → let after = with_payload (record { origin = o; tag = t; event = event; withdrawn = up }) table event in
      IsTable after
      × ((known o t after ≡ Some (record { origin = o; tag = t; event = event; withdrawn = up }))
      ⊎ (known o t after ≡ Some (record { origin = o; tag = t; event = event; withdrawn = false }))
      ⊎ ((event ≡ None) × (known o t after ≡ None)))
  payload_goes None up table ordered (inl none) = (ordered, inr (inr (refl, none)))
  payload_goes None up table ordered (inr here) = (ordered, inl here)
  payload_goes (Some p) up table ordered (inl none) = (
    table_changed (with_event p.0 p.1) (with_event_names p.0 p.1) o t table ordered,
    inr (inl (known_changed (with_event p.0 p.1) (with_event_names p.0 p.1) o t table ordered ∙ ap (λ x. Some (with_event p.0 p.1 (unwrap_or x (fresh o t)))) none)),
  )
  payload_goes (Some p) up table ordered (inr here) = (
    table_changed (with_event p.0 p.1) (with_event_names p.0 p.1) o t table ordered,
    inl (
        known_changed (with_event p.0 p.1) (with_event_names p.0 p.1) o t table ordered
        ∙ ap (λ x. Some (with_event p.0 p.1 (unwrap_or x (fresh o t)))) here
        ∙ ap (λ q. Some (record { origin = o; tag = t; event = Some q; withdrawn = up })) (same_either (is_lesser p p) p)
        ),
  )

  -- with its mark
  mark_goes : (event : Option (ℕ × ℤ)) (up : Bool) (table : List Entry) → IsTable table
      → ((event ≡ None) → (up ≡ false) → ⊥)
      → ((known o t table ≡ Some (record { origin = o; tag = t; event = event; withdrawn = up }))
      ⊎ (known o t table ≡ Some (record { origin = o; tag = t; event = event; withdrawn = false }))
      ⊎ ((event ≡ None) × (known o t table ≡ None)))
      → let after = with_mark (record { origin = o; tag = t; event = event; withdrawn = up }) table in
      IsTable after × (known o t after ≡ Some (record { origin = o; tag = t; event = event; withdrawn = up }))
  mark_goes event true table ordered some (inl whole) = (
    table_changed with_withdrawal with_withdrawal_names o t table ordered,
    known_changed with_withdrawal with_withdrawal_names o t table ordered ∙ ap (λ x. Some (with_withdrawal (unwrap_or x (fresh o t)))) whole,
  )
  mark_goes event true table ordered some (inr (inl half)) = (
    table_changed with_withdrawal with_withdrawal_names o t table ordered,
    known_changed with_withdrawal with_withdrawal_names o t table ordered ∙ ap (λ x. Some (with_withdrawal (unwrap_or x (fresh o t)))) half,
  )
  mark_goes event true table ordered some (inr (inr none)) = (
    table_changed with_withdrawal with_withdrawal_names o t table ordered,
    known_changed with_withdrawal with_withdrawal_names o t table ordered
        ∙ ap (λ x. Some (with_withdrawal (unwrap_or x (fresh o t)))) none.1
        ∙ ap (λ p. Some (record { origin = o; tag = t; event = p; withdrawn = true })) (sym none.0),
  )
  mark_goes event false table ordered some (inl whole) = (ordered, whole)
  mark_goes event false table ordered some (inr (inl half)) = (ordered, half)
  mark_goes event false table ordered some (inr (inr none)) = absurd (some none.0 refl)

  -- of another name nothing changes
  payload_elsewhere : (e : Entry) (event : Option (ℕ × ℤ)) (table : List Entry) → has_name o t (fresh e.origin e.tag) ≡ false
      → known o t (with_payload e table event) ≡ known o t table
  payload_elsewhere e None table other = refl
  payload_elsewhere e (Some p) table other = known_elsewhere (with_event p.0 p.1) (with_event_names p.0 p.1) e.origin e.tag o t other table

  mark_elsewhere : (e : Entry) (up : Bool) (table : List Entry) → has_name o t (fresh e.origin e.tag) ≡ false
      → known o t (with_mark (record e { withdrawn = up }) table) ≡ known o t table
  mark_elsewhere e true table other = known_elsewhere with_withdrawal with_withdrawal_names e.origin e.tag o t other table
  mark_elsewhere e false table other = refl

  name_elsewhere : (e : Entry) (table : List Entry) → has_name o t (fresh e.origin e.tag) ≡ false
      → known o t (with_name table e) ≡ known o t table
  name_elsewhere e table other =
      mark_elsewhere e e.withdrawn (with_payload e table e.event) other ∙ payload_elsewhere e e.event table other

-- with all that is known of its own name
name_goes : (e : Entry) (table : List Entry) → IsTable table → ((e.event ≡ None) → (e.withdrawn ≡ false) → ⊥) → KnowsOnly e.origin e.tag e table
    → IsTable (with_name table e) × (known e.origin e.tag (with_name table e) ≡ Some e)
name_goes e table ordered some only =
    let first = payload_goes e.origin e.tag e.event e.withdrawn table ordered only in
    mark_goes e.origin e.tag e.event e.withdrawn (with_payload e table e.event) first.0 some first.1

-- a name of which the set tells something has an event or is withdrawn
module _ (S : Records) where
  tells_some : (e : Entry) → Tells S e.origin e.tag (Some e) → (e.event ≡ None) → (e.withdrawn ≡ false) → ⊥
  tells_some e h no_event no_mark =
      by h.some.0 h.some.1 h.some.2
    where
      by : (said : Record) → IsIn S said → IsOf e.origin e.tag said → ⊥
      by (Event o t input value) has of =
          let none = subst (TellsPayload S e.origin e.tag) no_event h.payload in
          none (input, value) (subst (λ (n : ℕ × Moment). IsIn S (Event n.0 n.1 input value)) (λ i. (of.0 i, of.1 i)) has)
      by (Withdraw o t) has of =
          both_ways e.withdrawn no_mark (h.mark.1 (subst (λ (n : ℕ × Moment). IsIn S (Withdraw n.0 n.1)) (λ i. (of.0 i, of.1 i)) has))
      by (Announce o t events withdrawn) has of = of
      by (Joint t events withdrawn) has of = of

  -- a table that knows of names nothing but what the set tells
  abbrev IsPart : List Entry → Type 0
  IsPart table = IsTable table × ((o : ℕ) (t : Moment) → (known o t table ≡ None) ⊎ Tells S o t (known o t table))

  only_told : (e : Entry) (table : List Entry) → IsPart table → Tells S e.origin e.tag (Some e) → KnowsOnly e.origin e.tag e table
  only_told e table part told = elim (part.1 e.origin e.tag) [
    | inl none ↦ inl none
    | inr known_told ↦ inr (told_once S e.origin e.tag (known e.origin e.tag table) (Some e) known_told told)
  ]

  -- one name more
  part_goes : (e : Entry) (table : List Entry) → IsPart table → Tells S e.origin e.tag (Some e) → IsPart (with_name table e)
  part_goes e table part told = (goes.0, each)
    where
      goes : IsTable (with_name table e) × (known e.origin e.tag (with_name table e) ≡ Some e)
      goes = name_goes e table part.0 (tells_some e told) (only_told e table part told)

      each : (o : ℕ) (t : Moment) → (known o t (with_name table e) ≡ None) ⊎ Tells S o t (known o t (with_name table e))
      each o t = elim (cases_Bool (has_name o t (fresh e.origin e.tag))) [
        | inl n ↦ (let is = named_is o t (fresh e.origin e.tag) n in
            inr (subst (λ (m : ℕ × Moment). Tells S m.0 m.1 (known m.0 m.1 (with_name table e))) (λ i. (sym is.0 i, sym is.1 i))
            (subst (Tells S e.origin e.tag) (sym goes.1) told)))
        | inr n ↦ (let same = name_elsewhere o t e table n in elim (part.1 o t) [
          | inl none ↦ inl (same ∙ none)
          | inr known_told ↦ inr (subst (Tells S o t) (sym same) known_told)
        ])
      ]

  -- what is known of a name stays known
  stays_known : (e : Entry) (table : List Entry) → IsPart table → Tells S e.origin e.tag (Some e)
      → (d : Entry) → Tells S d.origin d.tag (Some d) → known d.origin d.tag table ≡ Some d → known d.origin d.tag (with_name table e) ≡ Some d
  stays_known e table part told d d_told knows = elim (cases_Bool (has_name d.origin d.tag (fresh e.origin e.tag))) [
    | inl n ↦ (let is = named_is d.origin d.tag (fresh e.origin e.tag) n in
        let here = (name_goes e table part.0 (tells_some e told) (only_told e table part told)).1 in
        let same : Some e ≡ Some d = told_once S d.origin d.tag (Some e) (Some d) (subst (λ (m : ℕ × Moment). Tells S m.0 m.1 (Some e)) (λ i. (sym is.0 i, sym is.1 i)) told) d_told in
        subst (λ (m : ℕ × Moment). known m.0 m.1 (with_name table e) ≡ Some e) (λ i. (sym is.0 i, sym is.1 i)) here ∙ same)
    | inr n ↦ name_elsewhere d.origin d.tag e table n ∙ knows
  ]

  -- all of them
  part_ends : (names : List Entry) (table : List Entry) → IsPart table → ((e : Entry) → Contains names e → Tells S e.origin e.tag (Some e))
      → IsPart (fold with_name table names)
  part_ends [] table part told = part
  part_ends (e ∷ names) table part told =
      part_ends names (with_name table e) (part_goes e table part (told e (Contains-here e names))) (λ d has. told d (Contains-there e names d has))

  stay_known : (names : List Entry) (table : List Entry) → IsPart table → ((e : Entry) → Contains names e → Tells S e.origin e.tag (Some e))
      → (d : Entry) → Tells S d.origin d.tag (Some d) → known d.origin d.tag table ≡ Some d → known d.origin d.tag (fold with_name table names) ≡ Some d
  stay_known [] table part told d d_told knows = knows
  stay_known (e ∷ names) table part told d d_told knows =
      let here = told e (Contains-here e names) in
      stay_known names (with_name table e) (part_goes e table part here) (λ x has. told x (Contains-there e names x has)) d d_told
      (stays_known e table part here d d_told knows)

  all_known : (names : List Entry) (table : List Entry) → IsPart table → ((e : Entry) → Contains names e → Tells S e.origin e.tag (Some e))
      → (d : Entry) → Contains names d → known d.origin d.tag (fold with_name table names) ≡ Some d
  all_known [] table part told d has = absurd (omega (arith, has.1))
  all_known (e ∷ names) table part told d has =
      let here = told e (Contains-here e names) in
      let next = part_goes e table part here in
      let rest : (x : Entry) → Contains names x → Tells S x.origin x.tag (Some x) = λ x h. told x (Contains-there e names x h) in
      elim (first_or_more e names d has) [
        | inl is ↦ stay_known names (with_name table e) next rest d (told d has)
            (subst (λ (x : Entry). known x.origin x.tag (with_name table e) ≡ Some x) is (name_goes e table part.0 (tells_some e here) (only_told e table part here)).1)
        | inr more ↦ all_known names (with_name table e) next rest d more
      ]
    where
      first_or_more : (e : Entry) (names : List Entry) (d : Entry) → Contains (e ∷ names) d → (e ≡ d) ⊎ Contains names d
      first_or_more e names d h = Contains-cases e names d h

-- so the names of a log give its table
pub names_give : (records : List Record) (names : List Entry) → All (λ (e : Entry). Tells (set_of records) e.origin e.tag (Some e)) names
    → ((o : ℕ) (t : Moment) (e : Entry) → Tells (set_of records) o t (Some e) → Contains names e)
    → fold with_name [] names ≡ table_of records
names_give records names told all = same_table (fold with_name [] names) (table_of records) whole.0 (is_table records) same
  where
    S : Records
    S = set_of records

    each : (e : Entry) → Contains names e → Tells S e.origin e.tag (Some e)
    each e has = All-contains (λ (x : Entry). Tells S x.origin x.tag (Some x)) names e told has

    empty : IsPart S []
    empty = (tt, λ o t. inl refl)

    whole : IsPart S (fold with_name [] names)
    whole = part_ends S names [] empty each

    at_told : (o : ℕ) (t : Moment) (found : Option Entry) → known o t (table_of records) ≡ found → Tells S o t found
        → (known o t (fold with_name [] names) ≡ None) ⊎ Tells S o t (known o t (fold with_name [] names))
        → known o t (fold with_name [] names) ≡ found
    at_told o t found is target (inr here) = told_once S o t (known o t (fold with_name [] names)) found here target
    at_told o t None is target (inl none) = none
    at_told o t (Some d) is target (inl none) =
        let knows = all_known S names [] empty each d (all o t d target) in
        let same = subst (λ (m : ℕ × Moment). known m.0 m.1 (fold with_name [] names) ≡ Some d) (λ i. (target.origin_is i, target.tag_is i)) knows in
        absurd (some_not_none d (sym same ∙ none))

    same : (o : ℕ) (t : Moment) → known o t (fold with_name [] names) ≡ known o t (table_of records)
    same o t = at_told o t (known o t (table_of records)) refl (known_by_set records o t) (whole.1 o t)

-- the program has no reason against what is known of a name of records against which it has none
name_allowed : (P : Program) (records : List Record) → AreAllowed P records → (e : Entry) → Tells (set_of records) e.origin e.tag (Some e) → IsAllowedName P e
name_allowed P records allowed e told = (
  λ payload is. fits (event_of e payload) (subst (TellsPayload (set_of records) e.origin e.tag) is told.payload).0,
  λ up. fits (withdrawal_of e) (told.mark.0 up),
)
  where
    fits : (said : Record) → IsIn (set_of records) said → refusal_of P said ≡ None
    fits said has = All-contains (λ (r : Record). refusal_of P r ≡ None) records said allowed ((in_set records said).1 has)

pub names_allowed : (P : Program) (records : List Record) (names : List Entry) → AreAllowed P records
    → All (λ (e : Entry). Tells (set_of records) e.origin e.tag (Some e)) names → All (IsAllowedName P) names
names_allowed P records names allowed told = λ k d below. name_allowed P records allowed _ (told k d below)

-- how long a table is with one record, and with one name
pub one_longer : (table : List Entry) (said : Record) → length (with_record table said) ≤ length table + 1
one_longer table (Event origin tag input value) = length-changed (with_event input value) origin tag table
one_longer table (Withdraw origin tag) = length-changed with_withdrawal origin tag table
one_longer table (Announce origin tag events withdrawn) = omega arith
one_longer table (Joint tag events withdrawn) = omega arith

pub payload_longer : (e : Entry) (table : List Entry) (event : Option (ℕ × ℤ)) → length (with_payload e table event) ≤ length table + 1
payload_longer e table None = omega arith
payload_longer e table (Some p) = one_longer table (event_of e p)

mark_longer : (e : Entry) (table : List Entry) (up : Bool) → length (with_mark (record e { withdrawn = up }) table) ≤ length table + 1
mark_longer e table true = one_longer table (withdrawal_of e)
mark_longer e table false = omega arith

pub name_longer : (table : List Entry) (e : Entry) → length (with_name table e) ≤ length table + 2
name_longer table e = omega (arith, payload_longer e table e.event, mark_longer e (with_payload e table e.event) e.withdrawn)
