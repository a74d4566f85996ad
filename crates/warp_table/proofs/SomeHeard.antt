-- That of every list something is heard of an origin, and so that its announcements reach to some tag, and that it broke one or
-- did not.
use Rattle.std.proofs.Common.{◌≡◌, ◌⊎◌, inl, inr, ℕ, ◌≤◌, Bool, true, false, ◌&&◌, ◌||◌, nat_lt, nat_le, Option, Some, None, List, [], ◌∷◌, Contains, IsTrue, refl, sym, ap, subst, ◌∙◌, arith}
use Rattle.std.specs.Prelude.{◌↔◌}
use Rattle.std.specs.Bool.{Decides}
use Rattle.std.specs.Set.{is_member}
use Rattle.std.proofs.lemmas.Bool.{both_ways, cases_Bool, cases_eq, false≢true, le-leb, leb-true}
use Rattle.std.proofs.lemmas.Bool.Decides.{Decides-and, Decides-ltb, Decides-or, nat_tests}
use Rattle.std.proofs.lemmas.Map.Made.{is_member-Decides}
use Rattle.warp_tag.specs.Moment.{Moment, is_before, is_same}
use Rattle.warp_tag.proofs.Tags.{not_before_self}
use Rattle.warp_record.specs.declared.record.Record.{Record}
use Rattle.warp_record.specs.declared.record.Record.TheVariants.{Event, Withdraw, Announce, Joint}
use Rattle.warp_table.specs.Records.{Records, IsIn, set_of}
use Rattle.warp_table.specs.Names.{origin_or_first}
use Rattle.warp_table.specs.Announced.{IsBroken, beginning}
use Rattle.warp_table.specs.Horizons.{ReachesAlone}
use Rattle.warp_table.specs.inner.Heard.{Announced, Heard, IsExceededBy, IsHeard, IsHeardTo, IsReachedBy, count_before, earlier_of, nothing_heard, with_tag}
use Rattle.warp_table.proofs.Heard.{IsWithOne, breaks, heard_again, heard_announcement, heard_elsewhere, heard_event, heard_joint, heard_new_payload, heard_nothing, heard_withdrawal, reaches}
use Rattle.warp_table.proofs.Members.{Contains-cases, Contains-here, Contains-nil, Contains-there}
use Rattle.warp_table.proofs.Sets.{in_set, same_tag}

-- a list with one more record in front
with_first : (one : Record) (records : List Record) → IsWithOne (set_of records) one (set_of (one ∷ records))
with_first one records = record {
  each = λ said. (
    λ h. elim (Contains-cases one records said ((in_set (one ∷ records) said).1 h)) [
      | inl e ↦ inr (sym e)
      | inr old ↦ inl ((in_set records said).0 old)
    ],
    λ h. elim h [
      | inl old ↦ (in_set (one ∷ records) said).0 (Contains-there one records said ((in_set records said).1 old))
      | inr e ↦ subst (λ (r : Record). IsIn (set_of (one ∷ records)) r) (sym e) ((in_set (one ∷ records) one).0 (Contains-here one records))
    ],
  );
}

-- with a new record of the origin something is heard of it
next_heard : (S : Records) (one : Record) (T : Records) (heard : Heard) → IsWithOne S one T → (IsIn S one → ⊥) → IsHeard S (origin_or_first one) heard → (now : Heard) × IsHeard T (origin_or_first one) now
next_heard S (Event origin tag input value) T heard more new is = elim (cases_Bool (is_member is_same heard.events tag)) [
  | inl has ↦ (
    record heard { doubled = Some (earlier_of heard.doubled tag) },
    heard_new_payload S origin tag input value T heard more new ((is_member-Decides same_tag heard.events tag).0 has) is,
  )
  | inr lacks ↦ (
    record heard { events = with_tag tag heard.events },
    heard_event S origin tag input value T heard more (λ has. both_ways (is_member is_same heard.events tag) lacks ((is_member-Decides same_tag heard.events tag).1 has)) is,
  )
]
next_heard S (Withdraw origin tag) T heard more new is = (
  record heard { withdrawn = with_tag tag heard.withdrawn },
  heard_withdrawal S origin tag T heard more (λ has. new ((is.withdrawn tag).0 has)) is,
)
next_heard S (Announce origin tag events withdrawn) T heard more new is =
    let one : Announced = record { tag = tag; events = events; withdrawn = withdrawn } in (
      record heard { announced = one ∷ heard.announced },
      heard_announcement S origin tag events withdrawn T heard (one ∷ heard.announced) more
          (λ a. (
            λ h. elim (Contains-cases one heard.announced a h) [
              | inl e ↦ inr (sym e)
              | inr old ↦ inl old
            ],
            λ h. elim h [
              | inl old ↦ Contains-there one heard.announced a old
              | inr e ↦ subst (λ (b : Announced). Contains (one ∷ heard.announced) b) (sym e) (Contains-here one heard.announced)
            ],
          )) is,
    )
next_heard S (Joint tag events withdrawn) T heard more new is = (heard, heard_joint S tag events withdrawn T 0 heard more is)

-- something is heard of an origin
pub some_heard : (records : List Record) (origin : ℕ) → (heard : Heard) × IsHeard (set_of records) origin heard
some_heard [] origin = (nothing_heard, heard_nothing origin)
some_heard (one ∷ records) origin =
    let was = some_heard records origin in
    let S : Records = set_of records in
    let T : Records = set_of (one ∷ records) in
    elim (cases_Bool (S one)) [
      | inl there ↦ (was.0, heard_again S one T origin was.0 (with_first one records) there was.1)
      | inr new ↦ elim (cases_eq (origin_or_first one) origin) [
        | inl own ↦ subst (λ (o : ℕ). (heard : Heard) × IsHeard T o heard) own
            (next_heard S one T was.0 (with_first one records) (λ is. both_ways (S one) new is) (subst (λ (o : ℕ). IsHeard S o was.0) (sym own) was.1))
        | inr other ↦ (was.0, heard_elsewhere S one T origin was.0 (with_first one records) other was.1)
      ]
    ]

-- The greatest tag

-- of the announcements that pass a test this is the greatest tag, or the beginning where none does
pub record IsGreatestTag (p : Announced → Bool) (announced : List Announced) (end : Moment) : Type 0 where
  pub some : ((a : Announced) × Contains announced a × (p a ≡ true) × (a.tag ≡ end)) ⊎ (end ≡ beginning)
  pub greatest : (a : Announced) → Contains announced a → p a ≡ true → is_before end a.tag ≡ false

-- what is not behind a tag is not behind a later one
not_behind_later : (t u v : Moment) → is_before t u ≡ false → is_before t v ≡ true → is_before v u ≡ false
not_behind_later t u v h k = grind (arith, nat_tests)

-- with one more announcement
greater_tag : (p : Announced → Bool) (first : Announced) (announced : List Announced) (end : Moment) (passes : Bool) → p first ≡ passes → IsGreatestTag p announced end →
    (now : Moment) × IsGreatestTag p (first ∷ announced) now
greater_tag p first announced end false fails is = (
  end,
  record {
    some = elim is.some [
      | inl a ↦ inl (a.0, Contains-there first announced a.0 a.1, a.2, a.3)
      | inr none ↦ inr none
    ];
    greatest = λ a has passes. elim (Contains-cases first announced a has) [
      | inl e ↦ absurd (false≢true (sym fails ∙ ap p e ∙ passes))
      | inr old ↦ is.greatest a old passes
    ];
  },
)
greater_tag p first announced end true here is = elim (cases_Bool (is_before end first.tag)) [
  | inl later ↦ (
    first.tag,
    record {
      some = inl (first, Contains-here first announced, here, refl);
      greatest = λ a has passes. elim (Contains-cases first announced a has) [
        | inl e ↦ subst (λ (b : Announced). is_before first.tag b.tag ≡ false) e (not_before_self first.tag)
        | inr old ↦ not_behind_later end a.tag first.tag (is.greatest a old passes) later
      ];
    },
  )
  | inr not_later ↦ (
    end,
    record {
      some = elim is.some [
        | inl a ↦ inl (a.0, Contains-there first announced a.0 a.1, a.2, a.3)
        | inr none ↦ inr none
      ];
      greatest = λ a has passes. elim (Contains-cases first announced a has) [
        | inl e ↦ subst (λ (b : Announced). is_before end b.tag ≡ false) e not_later
        | inr old ↦ is.greatest a old passes
      ];
    },
  )
]

pub greatest_tag : (p : Announced → Bool) (announced : List Announced) → (end : Moment) × IsGreatestTag p announced end
greatest_tag p [] = (beginning, record { some = inr refl; greatest = λ a has passes. absurd (Contains-nil a has) })
greatest_tag p (first ∷ announced) = let rest = greatest_tag p announced in greater_tag p first announced rest.0 (p first) refl rest.1

-- What is heard decides

-- a test of numbers holds of just these
pub at_most : (m n : ℕ) → Decides (nat_le m n) (m ≤ n)
at_most m n = (leb-true m n, le-leb m n)

-- up to some tag announcements are heard to be reached
some_end : (heard : Heard) → (end : Moment) × IsHeardTo heard end
some_end heard = (
  best.0,
  record {
    some = elim best.1.some [
      | inl a ↦ inl (a.0, a.1, (test a.0).0 a.2, a.3)
      | inr none ↦ inr none
    ];
    greatest = λ a has reached. best.1.greatest a has ((test a).1 reached);
  },
)
  where
    is_reached : Announced → Bool
    is_reached a = nat_le a.events (count_before a.tag heard.events) && nat_le a.withdrawn (count_before a.tag heard.withdrawn)

    test : (a : Announced) → Decides (is_reached a) (IsReachedBy heard a)
    test a = Decides-and (nat_le a.events (count_before a.tag heard.events)) (nat_le a.withdrawn (count_before a.tag heard.withdrawn))
        (at_most a.events (count_before a.tag heard.events)) (at_most a.withdrawn (count_before a.tag heard.withdrawn))

    best : (end : Moment) × IsGreatestTag is_reached heard.announced end
    best = greatest_tag is_reached heard.announced

-- a name of two payloads is before an end or is not
pub doubled_before : (doubled : Option Moment) (end : Moment) → (b : Bool) × Decides b ((t : Moment) × (doubled ≡ Some t) × IsTrue (is_before t end))
doubled_before None end = (false, (λ h. absurd (false≢true h), λ h. absurd (let never : None ≡ Some h.0 = h.1 in cc)))
doubled_before (Some t) end = (
  is_before t end,
  (
    λ h. (t, refl, h),
    λ h. (let same : t ≡ h.0 = (let some : Some t ≡ Some h.0 = h.1 in cc) in subst (λ (u : Moment). IsTrue (is_before u end)) (sym same) h.2),
  ),
)

-- an announcement is exceeded or is not
exceeds : (heard : Heard) (a : Announced) → (b : Bool) × Decides b (IsExceededBy heard a)
exceeds heard a =
    let events = nat_lt a.events (count_before a.tag heard.events) in
    let withdrawn = nat_lt a.withdrawn (count_before a.tag heard.withdrawn) in
    let doubled = doubled_before heard.doubled a.tag in (
      events || (withdrawn || doubled.0),
      Decides-or events (withdrawn || doubled.0) (Decides-ltb a.events (count_before a.tag heard.events))
          (Decides-or withdrawn doubled.0 (Decides-ltb a.withdrawn (count_before a.tag heard.withdrawn)) doubled.1),
    )

-- one of a list is so or none is
pub some_of : {X : Type 0} (P : X → Type 0) → ((a : X) → (b : Bool) × Decides b (P a)) → (announced : List X) → (b : Bool) × Decides b ((a : X) × Contains announced a × P a)
some_of P each [] = (false, (λ h. absurd (false≢true h), λ h. absurd (Contains-nil h.0 h.1)))
some_of P each (first ∷ announced) =
    let here = each first in
    let rest = some_of P each announced in
    let either = Decides-or here.0 rest.0 here.1 rest.1 in (
      here.0 || rest.0,
      (
        λ h. elim (either.0 h) [
          | inl is ↦ (first, Contains-here first announced, is)
          | inr a ↦ (a.0, Contains-there first announced a.0 a.1, a.2)
        ],
        λ h. either.1 (elim (Contains-cases first announced h.0 h.1) [
          | inl e ↦ inl (subst P (sym e) h.2)
          | inr old ↦ inr (h.0, old, h.2)
        ]),
      ),
    )

-- In every set of a list an origin's own announcements reach to some tag

pub some_reach_alone : (records : List Record) (origin : ℕ) → (end : Moment) × ReachesAlone (set_of records) origin end
some_reach_alone records origin =
    let heard = some_heard records origin in
    let end = some_end heard.0 in
    (end.0, reaches (set_of records) origin heard.0 end.0 heard.1 end.1)

-- and it broke one or did not

pub some_breach : (records : List Record) (origin : ℕ) → (broken : Bool) × (IsTrue broken ↔ IsBroken (set_of records) origin)
some_breach records origin =
    let heard = some_heard records origin in
    let broken = some_of (IsExceededBy heard.0) (exceeds heard.0) heard.0.announced in
    let breaks = breaks (set_of records) origin heard.0 heard.1 in
    (broken.0, (λ up. breaks.0 (broken.1.0 up), λ broke. broken.1.1 (breaks.1 broke)))
