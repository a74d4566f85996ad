-- That in every set of a list joint announcements reach to some tag, and that one of them is broken or none is.
use Rattle.std.proofs.Common.{◌≡◌, ◌⊎◌, inl, inr, ℕ, ℤ, ◌+◌, ◌≤◌, Bool, false, ◌&&◌, ◌||◌, nat_lt, nat_le, is_some, Option, Some, None, List, [], ◌∷◌, length, filter, Contains, IsTrue, refl, subst, arith}
use Rattle.std.specs.Prelude.{◌↔◌, IfSome}
use Rattle.std.specs.Bool.{Decides}
use Rattle.std.proofs.lemmas.Bool.{and_from, and_parts, false≢true}
use Rattle.std.proofs.lemmas.Bool.Decides.{Decides-and, Decides-like, Decides-ltb, Decides-or}
use Rattle.std.proofs.lemmas.List.Kept.{AllPairs-filter}
use Rattle.warp_tag.specs.Moment.{Moment, is_before}
use Rattle.warp_tag.specs.Table.{known}
use Rattle.warp_tag.specs.declared.entry.Entry.{Entry}
use Rattle.warp_record.specs.declared.record.Record.{Record}
use Rattle.warp_record.specs.declared.record.Record.TheVariants.{Event, Withdraw, Announce, Joint}
use Rattle.warp_table.specs.Announced.{ReachesTo}
use Rattle.warp_table.specs.Horizons.{ReachesJointly, later}
use Rattle.warp_table.specs.Joint.{AtLeastNames, HasReachedJointly, IsBrokenJointly, IsReachedJointly, all_events_below, all_withdrawals_below}
use Rattle.warp_table.specs.LogNames.{names_of, table_of}
use Rattle.warp_table.specs.Names.{HasEvent, HasTwoPayloads, HasWithdrawal, Tells}
use Rattle.warp_table.specs.Records.{IsIn, Records, set_of}
use Rattle.warp_table.specs.inner.Heard.{Announced}
use Rattle.warp_table.proofs.Heard.{before_end}
use Rattle.warp_table.proofs.HeardNews.{payload_told}
use Rattle.warp_table.proofs.JointHorizons.{reaches_both}
use Rattle.warp_table.proofs.JointNames.{at_least_listed}
use Rattle.warp_table.proofs.ListedNames.{names_differ, names_each}
use Rattle.warp_table.proofs.Members.{Contains-cases, Contains-here, Contains-nil, Contains-there, kept_passes, passes_kept}
use Rattle.warp_table.proofs.Sets.{in_set}
use Rattle.warp_table.proofs.SomeHeard.{at_most, doubled_before, greatest_tag, some_heard, some_of, some_reach_alone}
use Rattle.warp_table.proofs.Told.{known_by_set}

-- what is told of a name has an event, or a withdrawal
abbrev event_test : Option Entry → Bool
event_test None = false
event_test (Some e) = is_some e.event

abbrev withdrawal_test : Option Entry → Bool
withdrawal_test None = false
withdrawal_test (Some e) = e.withdrawn

event_decides : (S : Records) (o : ℕ) (t : Moment) (told : Option Entry) → Tells S o t told → IsTrue (event_test told) ↔ ((payload : ℕ × ℤ) × HasEvent S o t payload)
event_decides S o t None told = (λ h. absurd (false≢true h), λ h. absurd (told (Event o t h.0.0 h.0.1) h.1 (refl, refl)))
event_decides S o t (Some e) told = payload_told S o t e.event told.payload

withdrawal_decides : (S : Records) (o : ℕ) (t : Moment) (told : Option Entry) → Tells S o t told → IsTrue (withdrawal_test told) ↔ HasWithdrawal S o t
withdrawal_decides S o t None told = (λ h. absurd (false≢true h), λ h. absurd (told (Withdraw o t) h (refl, refl)))
withdrawal_decides S o t (Some e) told = told.mark

module _ (records : List Record) where
  abbrev S : Records
  S = set_of records

  abbrev names : List (ℕ × Moment)
  names = names_of records

  -- how many names below a tag pass a test
  abbrev number : (ℕ × Moment → Bool) → Moment → ℕ
  number test end = length (filter (λ n. is_before n.1 end && test n) names)

  counted : (test : ℕ × Moment → Bool) (is : ℕ × Moment → Type 0) → ((n : ℕ × Moment) → IsTrue (test n) ↔ is n) → ((n : ℕ × Moment) → is n → Contains names n) → (end : Moment) (count : ℕ) →
      AtLeastNames count (λ n. IsTrue (is_before n.1 end) × is n) ↔ (count ≤ number test end)
  counted test is each named end count =
      let p : ℕ × Moment → Bool = (λ n. is_before n.1 end && test n) in
      at_least_listed (λ n. IsTrue (is_before n.1 end) × is n) (filter p names) (AllPairs-filter (λ (m n : ℕ × Moment). m ≡ n → ⊥) p names (names_differ records))
      (λ n. (
        λ has. (
            let kept = kept_passes p names n has in
            let parts = and_parts (is_before n.1 end) (test n) kept.1 in
            (parts.0, (each n).0 parts.1)
            ),
        λ h. passes_kept p names n (named n h.1) (and_from (is_before n.1 end) (test n) h.0 ((each n).1 h.1)),
      )) count

  abbrev has_event : ℕ × Moment → Bool
  has_event n = event_test (known n.0 n.1 (table_of records))

  abbrev has_withdrawal : ℕ × Moment → Bool
  has_withdrawal n = withdrawal_test (known n.0 n.1 (table_of records))

  events_number : (end : Moment) (count : ℕ) → AtLeastNames count (all_events_below S end) ↔ (count ≤ number has_event end)
  events_number = counted has_event (λ n. (payload : ℕ × ℤ) × HasEvent S n.0 n.1 payload) (λ n. event_decides S n.0 n.1 (known n.0 n.1 (table_of records)) (known_by_set records n.0 n.1))
      (λ n h. (names_each records n.0 n.1).1 (Event n.0 n.1 h.0.0 h.0.1, h.1, (refl, refl)))

  withdrawals_number : (end : Moment) (count : ℕ) → AtLeastNames count (all_withdrawals_below S end) ↔ (count ≤ number has_withdrawal end)
  withdrawals_number = counted has_withdrawal (λ n. HasWithdrawal S n.0 n.1) (λ n. withdrawal_decides S n.0 n.1 (known n.0 n.1 (table_of records)) (known_by_set records n.0 n.1))
      (λ n h. (names_each records n.0 n.1).1 (Withdraw n.0 n.1, h, (refl, refl)))

-- the joint announcements of a list
abbrev joints : List Record → List Announced
joints [] = []
joints (Event o t input value ∷ records) = joints records
joints (Withdraw o t ∷ records) = joints records
joints (Announce o t events withdrawn ∷ records) = joints records
joints (Joint t events withdrawn ∷ records) = record { tag = t; events = events; withdrawn = withdrawn } ∷ joints records

joint_in : (records : List Record) (a : Announced) → Contains (joints records) a → Contains records (Joint a.tag a.events a.withdrawn)
joint_in [] a has = absurd (Contains-nil a has)
joint_in (Event o t input value ∷ records) a has = Contains-there (Event o t input value) records (Joint a.tag a.events a.withdrawn) (joint_in records a has)
joint_in (Withdraw o t ∷ records) a has = Contains-there (Withdraw o t) records (Joint a.tag a.events a.withdrawn) (joint_in records a has)
joint_in (Announce o t events withdrawn ∷ records) a has = Contains-there (Announce o t events withdrawn) records (Joint a.tag a.events a.withdrawn) (joint_in records a has)
joint_in (Joint t events withdrawn ∷ records) a has = elim (Contains-cases (record { tag = t; events = events; withdrawn = withdrawn }) (joints records) a has) [
  | inl is ↦ subst (λ (b : Announced). Contains (Joint t events withdrawn ∷ records) (Joint b.tag b.events b.withdrawn)) is (Contains-here (Joint t events withdrawn) records)
  | inr there ↦ Contains-there (Joint t events withdrawn) records (Joint a.tag a.events a.withdrawn) (joint_in records a there)
]

in_joints : (records : List Record) (a : Announced) → Contains records (Joint a.tag a.events a.withdrawn) → Contains (joints records) a
in_joints [] a has = absurd (Contains-nil (Joint a.tag a.events a.withdrawn) has)
in_joints (Event o t input value ∷ records) a has = elim (Contains-cases (Event o t input value) records (Joint a.tag a.events a.withdrawn) has) [
  | inl is ↦ cc
  | inr there ↦ in_joints records a there
]
in_joints (Withdraw o t ∷ records) a has = elim (Contains-cases (Withdraw o t) records (Joint a.tag a.events a.withdrawn) has) [
  | inl is ↦ cc
  | inr there ↦ in_joints records a there
]
in_joints (Announce o t events withdrawn ∷ records) a has = elim (Contains-cases (Announce o t events withdrawn) records (Joint a.tag a.events a.withdrawn) has) [
  | inl is ↦ cc
  | inr there ↦ in_joints records a there
]
in_joints (Joint t events withdrawn ∷ records) a has = elim (Contains-cases (Joint t events withdrawn) records (Joint a.tag a.events a.withdrawn) has) [
  | inl is ↦ (
      let tags : t ≡ a.tag = cc in
      let counts : events ≡ a.events = cc in
      let gone : withdrawn ≡ a.withdrawn = cc in
      subst (λ (b : Announced). Contains (record { tag = t; events = events; withdrawn = withdrawn } ∷ joints records) b) (λ i. record { tag = tags i; events = counts i; withdrawn = gone i })
      (Contains-here (record { tag = t; events = events; withdrawn = withdrawn }) (joints records))
      )
  | inr there ↦ Contains-there (record { tag = t; events = events; withdrawn = withdrawn }) (joints records) a (in_joints records a there)
]

-- In every set of a list joint announcements reach to some tag

abbrev is_reached : List Record → Announced → Bool
is_reached records a = nat_le a.events (number records (has_event records) a.tag) && nat_le a.withdrawn (number records (has_withdrawal records) a.tag)

reached_decides : (records : List Record) (a : Announced) → Decides (is_reached records a) (IsReachedJointly (set_of records) a.tag a.events a.withdrawn)
reached_decides records a =
    let events = events_number records a.tag a.events in
    let withdrawn = withdrawals_number records a.tag a.withdrawn in
    Decides-and (nat_le a.events (number records (has_event records) a.tag)) (nat_le a.withdrawn (number records (has_withdrawal records) a.tag))
    (Decides-like (nat_le a.events (number records (has_event records) a.tag)) events.1 events.0 (at_most a.events (number records (has_event records) a.tag)))
    (Decides-like (nat_le a.withdrawn (number records (has_withdrawal records) a.tag)) withdrawn.1 withdrawn.0 (at_most a.withdrawn (number records (has_withdrawal records) a.tag)))

pub some_reach_jointly : (records : List Record) → (end : Moment) × ReachesJointly (set_of records) end
some_reach_jointly records =
    let best = greatest_tag (is_reached records) (joints records) in (
      best.0,
      record {
        some = elim best.1.some [
          | inl a ↦ (
              let said : IsIn (set_of records) (Joint a.0.tag a.0.events a.0.withdrawn) = (in_set records (Joint a.0.tag a.0.events a.0.withdrawn)).0 (joint_in records a.0 a.1) in
              let there : HasReachedJointly (set_of records) a.0.tag = (a.0.events, a.0.withdrawn, said, (reached_decides records a.0).0 a.2) in
              inl (subst (λ (t : Moment). HasReachedJointly (set_of records) t) a.3 there)
              )
          | inr none ↦ inr none
        ];
        greatest = λ other h. (
            let a : Announced = record { tag = other; events = h.0; withdrawn = h.1 } in
            best.1.greatest a (in_joints records a ((in_set records (Joint other h.0 h.1)).1 h.2)) ((reached_decides records a).1 h.3)
            );
      },
    )

-- and so do all announcements that speak of an origin

pub some_reach : (records : List Record) (origin : ℕ) → (end : Moment) × ReachesTo (set_of records) origin end
some_reach records origin =
    let own = some_reach_alone records origin in
    let jointly = some_reach_jointly records in
    (later own.0 jointly.0, reaches_both (set_of records) origin own.0 jointly.0 own.1 jointly.1)

-- and one of them is broken or none is

-- a name of two payloads is before an end or none is
two_before : (records : List Record) (end : Moment) → (b : Bool) × Decides b ((origin : ℕ) × (tag : Moment) × IsTrue (is_before tag end) × HasTwoPayloads (set_of records) origin tag)
two_before records end =
    let S : Records = set_of records in
    let found = some_of (λ (n : ℕ × Moment). (t : Moment) × ((some_heard records n.0).0.doubled ≡ Some t) × IsTrue (is_before t end)) (λ n. doubled_before (some_heard records n.0).0.doubled end) (names_of records) in (
      found.0,
      Decides-like found.0
          (λ h. (
          let n : ℕ × Moment = h.0 in
          let heard = some_heard records n.0 in
          (n.0, h.2.0, h.2.2, subst (λ (d : Option Moment). IfSome d (λ t. HasTwoPayloads (set_of records) n.0 t)) h.2.1 heard.1.doubled)
          ))
          (λ h. (
          let heard = some_heard records h.0 in
          let least = heard.1.least_doubled h.1 h.3 in
          let named : Contains (names_of records) (h.0, h.1) = (names_each records h.0 h.1).1 (Event h.0 h.1 h.3.0.0 h.3.0.1, h.3.2, (refl, refl)) in
          ((h.0, h.1), named, (least.0, least.1, before_end h.1 least.0 end least.2 h.2))
          ))
          found.1,
    )

more_than : (m n : ℕ) → Decides (nat_lt m n) (m + 1 ≤ n)
more_than m n = Decides-like (nat_lt m n) (λ h. omega (arith, h)) (λ h. omega (arith, h)) (Decides-ltb m n)

-- an announcement of these is broken
abbrev Breaks : List Record → Announced → Type 0
Breaks records a = AtLeastNames (a.events + 1) (all_events_below (set_of records) a.tag)
    ⊎ (AtLeastNames (a.withdrawn + 1) (all_withdrawals_below (set_of records) a.tag)
    ⊎ ((origin : ℕ) × (tag : Moment) × IsTrue (is_before tag a.tag) × HasTwoPayloads (set_of records) origin tag))

breaks : (records : List Record) (a : Announced) → (b : Bool) × Decides b (Breaks records a)
breaks records a =
    let events = nat_lt a.events (number records (has_event records) a.tag) in
    let withdrawn = nat_lt a.withdrawn (number records (has_withdrawal records) a.tag) in
    let two = two_before records a.tag in
    let more = events_number records a.tag (a.events + 1) in
    let more_gone = withdrawals_number records a.tag (a.withdrawn + 1) in (
      events || (withdrawn || two.0),
      Decides-or events (withdrawn || two.0) (Decides-like events more.1 more.0 (more_than a.events (number records (has_event records) a.tag)))
          (Decides-or withdrawn two.0 (Decides-like withdrawn more_gone.1 more_gone.0 (more_than a.withdrawn (number records (has_withdrawal records) a.tag))) two.1),
    )

pub some_breach_jointly : (records : List Record) → (broken : Bool) × (IsTrue broken ↔ IsBrokenJointly (set_of records))
some_breach_jointly records =
    let found = some_of (Breaks records) (breaks records) (joints records) in (
      found.0,
      (
        λ up. (
            let a = found.1.0 up in
            (a.0.tag, a.0.events, a.0.withdrawn, (in_set records (Joint a.0.tag a.0.events a.0.withdrawn)).0 (joint_in records a.0 a.1), a.2)
            ),
        λ h. (
            let a : Announced = record { tag = h.0; events = h.1; withdrawn = h.2 } in
            found.1.1 (a, in_joints records a ((in_set records (Joint h.0 h.1 h.2)).1 h.3), h.4)
            ),
      ),
    )
