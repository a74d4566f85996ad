-- What is heard of an origin, against the set of the records: what it says of announcements, and what is heard with one
-- more record.
use Rattle.std.proofs.Common.{◌≡◌, ◌≢◌, ◌⊎◌, inl, inr, ℕ, ℤ, ◌+◌, ◌<◌, ◌≤◌, Bool, true, false, Option, Some, None, List, [], ◌∷◌, ◌++◌, length, filter, get_or, take, Contains, IsTrue, refl, sym, ap, subst, ◌∙◌, arith}
use Rattle.std.specs.Prelude.{◌↔◌, IfSome}
use Rattle.std.specs.Cmp.{IsEquivalence}
use Rattle.std.proofs.lemmas.Bool.{cases_Bool, false≢true}
use Rattle.std.proofs.lemmas.Bool.Decides.{Decides-like, nat_tests, same_from_decides}
use Rattle.std.proofs.lemmas.List.{get_or-take, length-take-le}
use Rattle.std.proofs.lemmas.List.Elements.{All-contains, Contains-append_left, Contains-get_or, Contains-push, Contains-push_cases}
use Rattle.std.proofs.lemmas.List.Kept.{AllPairs-filter}
use Rattle.std.proofs.lemmas.Map.Made.{IsDistinct-from_AllPairs, is_member-Decides, length-le_from_is_member}
use Rattle.warp_tag.specs.Moment.{Moment, is_before, is_same}
use Rattle.warp_tag.proofs.Tags.{not_before_self}
use Rattle.warp_record.specs.declared.record.Record.{Record}
use Rattle.warp_record.specs.declared.record.Record.TheVariants.{Event, Withdraw, Announce, Joint}
use Rattle.warp_table.specs.Records.{Records, IsIn, set_of}
use Rattle.warp_table.specs.Names.{HasEvent, HasTwoPayloads, HasWithdrawal, origin_or_first}
use Rattle.warp_table.specs.Announced.{AtLeast, HasReachedAlone, IsBroken, IsReached, events_below, withdrawals_below}
use Rattle.warp_table.specs.Horizons.{ReachesAlone}
use Rattle.warp_table.specs.inner.Heard.{Announced, AreAscending, Heard, IsExceeded, IsExceededBy, IsHeard, IsHeardTo, IsReachedBy, count_before, earlier_of, nothing_heard, with_tag}
use Rattle.warp_table.proofs.InOrder.{Contains-from_with_tag, Contains-with_tag, ascending-with_tag}
use Rattle.warp_table.proofs.Members.{Contains-nil, kept_passes, passes_kept}
use Rattle.warp_table.proofs.Sets.{in_set, same_tag}

-- Counts of tags

-- sameness of tags is an equivalence
pub same_tag_equiv : IsEquivalence is_same
same_tag_equiv = record {
  refl = λ t. (same_tag t t).1 refl;
  symm = λ t u. same_from_decides (is_same t u) (is_same u t) (same_tag t u) (Decides-like (is_same u t) sym sym (same_tag u t));
  congr = λ t u v e. ap (λ a. is_same a v) ((same_tag t u).0 e);
}

-- a tag that is before another is not that one
pub apart : (t u : Moment) → is_before t u ≡ true → t ≢ u
apart t u h e = let both : true ≡ false = sym h ∙ ap (is_before t) (sym e) ∙ not_before_self t in cc

-- so many tags of a kind are below an end exactly if there are so many in the list of those of the kind
pub at_least : (P : Moment → Type 0) (tags : List Moment) → AreAscending tags → ((t : Moment) → Contains tags t ↔ P t) → (end : Moment) (count : ℕ) → AtLeast count (λ t. IsTrue (is_before t end) × P t) ↔ (count ≤ count_before end tags)
at_least P tags ascending each end count = (there, back)
  where
    before : Moment → Bool
    before t = is_before t end

    there : AtLeast count (λ t. IsTrue (is_before t end) × P t) → count ≤ count_before end tags
    there h =
        let distinct = IsDistinct-from_AllPairs same_tag h.0 h.1 in
        let few : length h.0 ≤ length (filter before tags) = length-le_from_is_member same_tag_equiv h.0 (filter before tags) distinct
        (λ t m. (
        let there : Contains h.0 t = (is_member-Decides same_tag h.0 t).0 m in
        let is = All-contains (λ u. IsTrue (is_before u end) × P u) h.0 t h.2 there in
        (is_member-Decides same_tag (filter before tags) t).1 (passes_kept before tags t ((each t).1 is.1) is.0)
        )) in
        omega (arith, h.3)

    back : count ≤ count_before end tags → AtLeast count (λ t. IsTrue (is_before t end) × P t)
    back h =
        let found : List Moment = filter before tags in
        let long : length (take count found) ≡ count = length-take-le count found h in
        let ordered : AreAscending found = AllPairs-filter (λ t u. IsTrue (is_before t u)) before tags ascending in (
          take count found,
          λ i j d lt l. (
              let within : j < count = omega (arith, long) in
              rw (get_or-take count found j d within, get_or-take count found i d (omega arith))
              (apart (get_or found i d) (get_or found j d) (ordered i j d lt (omega (arith, h))))
              ),
          λ k d l. (
              let within : k < count = omega (arith, long) in
              let from = kept_passes before tags (get_or found k d) (Contains-get_or found k d (omega (arith, h))) in
              rw (get_or-take count found k d within) (from.1, (each (get_or found k d)).0 from.0)
              ),
          long,
        )

-- the names of the origin below an end that have an event are so many at least exactly if so many are heard
pub at_least_events : (S : Records) (origin : ℕ) (heard : Heard) → IsHeard S origin heard → (end : Moment) (count : ℕ) → AtLeast count (events_below S origin end) ↔ (count ≤ count_before end heard.events)
at_least_events S origin heard is end count = at_least (λ t. (payload : ℕ × ℤ) × HasEvent S origin t payload) heard.events is.ordered_events is.events end count

pub at_least_withdrawals : (S : Records) (origin : ℕ) (heard : Heard) → IsHeard S origin heard → (end : Moment) (count : ℕ) → AtLeast count (withdrawals_below S origin end) ↔ (count ≤ count_before end heard.withdrawn)
at_least_withdrawals S origin heard is end count = at_least (λ t. HasWithdrawal S origin t) heard.withdrawn is.ordered_withdrawn is.withdrawn end count

-- What announcements come to

reached_by : (S : Records) (origin : ℕ) (heard : Heard) → IsHeard S origin heard → (a : Announced) → IsReachedBy heard a ↔ IsReached S origin a.tag a.events a.withdrawn
reached_by S origin heard is a =
    let events = at_least_events S origin heard is a.tag a.events in
    let withdrawn = at_least_withdrawals S origin heard is a.tag a.withdrawn in
    (λ r. (events.1 r.0, withdrawn.1 r.1), λ r. (events.0 r.0, withdrawn.0 r.1))

-- up to where announcements are heard to be reached, they are reached in the set
pub reaches : (S : Records) (origin : ℕ) (heard : Heard) (end : Moment) → IsHeard S origin heard → IsHeardTo heard end → ReachesAlone S origin end
reaches S origin heard end is to = record {
  some = elim to.some [
    | inl a ↦ (
        let said : IsIn S (Announce origin a.0.tag a.0.events a.0.withdrawn) = (is.announced a.0.tag a.0.events a.0.withdrawn).0 a.1 in
        let there : HasReachedAlone S origin a.0.tag = (a.0.events, a.0.withdrawn, said, (reached_by S origin heard is a.0).0 a.2) in
        inl (subst (λ (t : Moment). HasReachedAlone S origin t) a.3 there)
        )
    | inr none ↦ inr none
  ];
  greatest = λ other r. (
      let a : Announced = record { tag = other; events = r.0; withdrawn = r.1 } in
      to.greatest a ((is.announced other r.0 r.1).1 r.2) ((reached_by S origin heard is a).1 r.3)
      );
}

-- a tag that is not behind one that is before an end is before it
pub before_end : (t u end : Moment) → is_before t u ≡ false → is_before t end ≡ true → is_before u end ≡ true
before_end t u end h k = grind (arith, nat_tests)

-- an announcement is exceeded exactly if the origin broke it
exceeded_by : (S : Records) (origin : ℕ) (heard : Heard) → IsHeard S origin heard → (a : Announced) →
    IsExceededBy heard a ↔ AtLeast (a.events + 1) (events_below S origin a.tag)
    ⊎ (AtLeast (a.withdrawn + 1) (withdrawals_below S origin a.tag)
    ⊎ ((tag : Moment) × IsTrue (is_before tag a.tag) × HasTwoPayloads S origin tag))
exceeded_by S origin heard is a =
    let events = at_least_events S origin heard is a.tag (a.events + 1) in
    let withdrawn = at_least_withdrawals S origin heard is a.tag (a.withdrawn + 1) in (
      λ h. elim h [
        | inl more ↦ inl (events.1 (omega (arith, more)))
        | inr rest ↦ elim rest [
          | inl more ↦ inr (inl (withdrawn.1 (omega (arith, more))))
          | inr d ↦ inr (inr (d.0, d.2, subst (λ (o : Option Moment). IfSome o (λ t. HasTwoPayloads S origin t)) d.1 is.doubled))
        ]
      ],
      λ h. elim h [
        | inl more ↦ inl (let many : a.events + 1 ≤ count_before a.tag heard.events = events.0 more in omega arith)
        | inr rest ↦ elim rest [
          | inl more ↦ inr (inl (let many : a.withdrawn + 1 ≤ count_before a.tag heard.withdrawn = withdrawn.0 more in omega arith))
          | inr d ↦ (
              let least = is.least_doubled d.0 d.2 in
              inr (inr (least.0, least.1, before_end d.0 least.0 a.tag least.2 d.1))
              )
        ]
      ],
    )

-- some announcement is heard to be exceeded exactly if the origin broke one
pub breaks : (S : Records) (origin : ℕ) (heard : Heard) → IsHeard S origin heard → IsExceeded heard ↔ IsBroken S origin
breaks S origin heard is = (
  λ h. (
      let a = h.0 in
      (a.tag, a.events, a.withdrawn, (is.announced a.tag a.events a.withdrawn).0 h.1, (exceeded_by S origin heard is a).0 h.2)
      ),
  λ h. (
      let a : Announced = record { tag = h.0; events = h.1; withdrawn = h.2 } in
      (a, (is.announced h.0 h.1 h.2).1 h.3, (exceeded_by S origin heard is a).1 h.4)
      ),
)

-- One more record

-- the one set has the records of the other and one more
pub record IsWithOne (S : Records) (one : Record) (T : Records) : Type 0 where
  pub each : (said : Record) → IsIn T said ↔ IsIn S said ⊎ (said ≡ one)

-- a list with one more record at its end
pub with_one : (records : List Record) (one : Record) → IsWithOne (set_of records) one (set_of (records ++ one ∷ []))
with_one records one = record {
  each = λ said. (
    λ h. elim (Contains-push_cases records one said ((in_set (records ++ one ∷ []) said).1 h)) [
      | inl old ↦ inl ((in_set records said).0 old)
      | inr e ↦ inr (sym e)
    ],
    λ h. elim h [
      | inl old ↦ (in_set (records ++ one ∷ []) said).0 (Contains-append_left records (one ∷ []) said ((in_set records said).1 old))
      | inr e ↦ subst (λ (r : Record). IsIn (set_of (records ++ one ∷ [])) r) (sym e) ((in_set (records ++ one ∷ []) one).0 (Contains-push records one))
    ],
  );
}

-- nothing is heard in the empty set
pub heard_nothing : (origin : ℕ) → IsHeard (set_of []) origin nothing_heard
heard_nothing origin = record {
  ordered_events = λ i j d lt l. absurd (omega arith);
  events = λ t. (λ h. absurd (Contains-nil t h), λ h. absurd (false≢true h.1));
  ordered_withdrawn = λ i j d lt l. absurd (omega arith);
  withdrawn = λ t. (λ h. absurd (Contains-nil t h), λ h. absurd (false≢true h));
  doubled = tt;
  least_doubled = λ t h. absurd (false≢true h.2);
  announced = λ t events withdrawn. (λ h. absurd (Contains-nil (record { tag = t; events = events; withdrawn = withdrawn }) h), λ h. absurd (false≢true h));
}

-- all records of the one are in the other, and no further event, withdrawal or announcement of the origin is
abbrev Keeps : Records → Records → Type 0
Keeps S T = (said : Record) → IsIn S said → IsIn T said

abbrev AddsNoEvent : Records → Records → ℕ → Type 0
AddsNoEvent S T origin = (t : Moment) (payload : ℕ × ℤ) → HasEvent T origin t payload → HasEvent S origin t payload

abbrev AddsNoWithdrawal : Records → Records → ℕ → Type 0
AddsNoWithdrawal S T origin = (t : Moment) → HasWithdrawal T origin t → HasWithdrawal S origin t

abbrev AddsNoAnnouncement : Records → Records → ℕ → Type 0
AddsNoAnnouncement S T origin = (t : Moment) (events withdrawn : ℕ) → IsIn T (Announce origin t events withdrawn) → IsIn S (Announce origin t events withdrawn)

-- what is heard of events where none came
record EventsHeard (S : Records) (origin : ℕ) (heard : Heard) : Type 0 where
  events : (t : Moment) → Contains heard.events t ↔ ((payload : ℕ × ℤ) × HasEvent S origin t payload)
  doubled : IfSome heard.doubled (λ t. HasTwoPayloads S origin t)
  least_doubled : (tag : Moment) → HasTwoPayloads S origin tag → (t : Moment) × (heard.doubled ≡ Some t) × (is_before tag t ≡ false)

pub IfSome-weaker : (doubled : Option Moment) (P Q : Moment → Type 0) → ((t : Moment) → P t → Q t) → IfSome doubled P → IfSome doubled Q
IfSome-weaker None P Q f h = tt
IfSome-weaker (Some t) P Q f h = f t h

events_stay : (S T : Records) (origin : ℕ) (heard : Heard) → Keeps S T → AddsNoEvent S T origin → IsHeard S origin heard → EventsHeard T origin heard
events_stay S T origin heard keeps none is = record {
  events = λ t. (
    λ h. (let e = (is.events t).0 h in (e.0, keeps (Event origin t e.0.0 e.0.1) e.1)),
    λ e. (is.events t).1 (e.0, none t e.0 e.1),
  );
  doubled = IfSome-weaker heard.doubled (λ t. HasTwoPayloads S origin t) (λ t. HasTwoPayloads T origin t)
      (λ t h. (h.0, h.1, keeps (Event origin t h.0.0 h.0.1) h.2, keeps (Event origin t h.1.0 h.1.1) h.3, h.4)) is.doubled;
  least_doubled = λ t h. is.least_doubled t (h.0, h.1, none t h.0 h.2, none t h.1 h.3, h.4);
}

withdrawals_stay : (S T : Records) (origin : ℕ) (heard : Heard) → Keeps S T → AddsNoWithdrawal S T origin → IsHeard S origin heard → (t : Moment) → Contains heard.withdrawn t ↔ HasWithdrawal T origin t
withdrawals_stay S T origin heard keeps none is t = (
  λ h. keeps (Withdraw origin t) ((is.withdrawn t).0 h),
  λ h. (is.withdrawn t).1 (none t h),
)

announcements_stay : (S T : Records) (origin : ℕ) (heard : Heard) → Keeps S T → AddsNoAnnouncement S T origin → IsHeard S origin heard → (t : Moment) (events withdrawn : ℕ) →
    Contains heard.announced (record { tag = t; events = events; withdrawn = withdrawn }) ↔ IsIn T (Announce origin t events withdrawn)
announcements_stay S T origin heard keeps none is t events withdrawn = (
  λ h. keeps (Announce origin t events withdrawn) ((is.announced t events withdrawn).0 h),
  λ h. (is.announced t events withdrawn).1 (none t events withdrawn h),
)

-- the three parts of what is heard
heard_from : (T : Records) (origin : ℕ) (heard : Heard) → AreAscending heard.events → AreAscending heard.withdrawn → EventsHeard T origin heard →
    ((t : Moment) → Contains heard.withdrawn t ↔ HasWithdrawal T origin t) →
    ((t : Moment) (events withdrawn : ℕ) → Contains heard.announced (record { tag = t; events = events; withdrawn = withdrawn }) ↔ IsIn T (Announce origin t events withdrawn)) →
    IsHeard T origin heard
heard_from T origin heard ascending_events ascending_withdrawn events withdrawals announcements = record {
  ordered_events = ascending_events;
  events = events.events;
  ordered_withdrawn = ascending_withdrawn;
  withdrawn = withdrawals;
  doubled = events.doubled;
  least_doubled = events.least_doubled;
  announced = announcements;
}

keeps_one : (S : Records) (one : Record) (T : Records) → IsWithOne S one T → Keeps S T
keeps_one S one T more said h = (more.each said).1 (inl h)

-- where one more record is none of a kind, none of that kind came
not_one : (S : Records) (one : Record) (T : Records) → IsWithOne S one T → (said : Record) → (said ≢ one) → IsIn T said → IsIn S said
not_one S one T more said other h = elim ((more.each said).0 h) [
  | inl old ↦ old
  | inr e ↦ absurd (other e)
]

-- a record that is there already changes nothing
pub heard_again : (S : Records) (one : Record) (T : Records) (origin : ℕ) (heard : Heard) → IsWithOne S one T → IsIn S one → IsHeard S origin heard → IsHeard T origin heard
heard_again S one T origin heard more there is =
    let keeps = keeps_one S one T more in
    let same : (said : Record) → IsIn T said → IsIn S said = λ said h. elim ((more.each said).0 h) [
      | inl old ↦ old
      | inr e ↦ subst (λ (r : Record). IsIn S r) (sym e) there
    ] in
    heard_from T origin heard is.ordered_events is.ordered_withdrawn
    (events_stay S T origin heard keeps (λ t payload. same (Event origin t payload.0 payload.1)) is)
    (withdrawals_stay S T origin heard keeps (λ t. same (Withdraw origin t)) is)
    (announcements_stay S T origin heard keeps (λ t events withdrawn. same (Announce origin t events withdrawn)) is)

-- a record of another origin changes nothing
pub heard_elsewhere : (S : Records) (one : Record) (T : Records) (origin : ℕ) (heard : Heard) → IsWithOne S one T → (origin_or_first one ≢ origin) → IsHeard S origin heard → IsHeard T origin heard
heard_elsewhere S one T origin heard more other is =
    let keeps = keeps_one S one T more in
    let none = not_one S one T more in
    heard_from T origin heard is.ordered_events is.ordered_withdrawn
    (events_stay S T origin heard keeps (λ t payload. none (Event origin t payload.0 payload.1) (λ e. other (sym (ap origin_or_first e)))) is)
    (withdrawals_stay S T origin heard keeps (λ t. none (Withdraw origin t) (λ e. other (sym (ap origin_or_first e)))) is)
    (announcements_stay S T origin heard keeps (λ t events withdrawn. none (Announce origin t events withdrawn) (λ e. other (sym (ap origin_or_first e)))) is)

-- an event is another record than a withdrawal, and than an announcement
event_not_withdrawal : (o p : ℕ) (t s : Moment) (input : ℕ) (value : ℤ) → Event o t input value ≢ Withdraw p s
event_not_withdrawal o p t s input value e = cc

event_not_announcement : (o p : ℕ) (t s : Moment) (input events withdrawn : ℕ) (value : ℤ) → Event o t input value ≢ Announce p s events withdrawn
event_not_announcement o p t s input events withdrawn value e = cc

withdrawal_not_announcement : (o p : ℕ) (t s : Moment) (events withdrawn : ℕ) → Withdraw o t ≢ Announce p s events withdrawn
withdrawal_not_announcement o p t s events withdrawn e = cc

-- a joint announcement changes nothing of any origin
pub heard_joint : (S : Records) (tag : Moment) (events withdrawn : ℕ) (T : Records) (origin : ℕ) (heard : Heard) → IsWithOne S (Joint tag events withdrawn) T → IsHeard S origin heard → IsHeard T origin heard
heard_joint S tag events withdrawn T origin heard more is =
    let keeps = keeps_one S (Joint tag events withdrawn) T more in
    let none = not_one S (Joint tag events withdrawn) T more in
    heard_from T origin heard is.ordered_events is.ordered_withdrawn
    (events_stay S T origin heard keeps (λ t payload. none (Event origin t payload.0 payload.1) (λ e. cc)) is)
    (withdrawals_stay S T origin heard keeps (λ t. none (Withdraw origin t) (λ e. cc)) is)
    (announcements_stay S T origin heard keeps (λ t events withdrawn. none (Announce origin t events withdrawn) (λ e. cc)) is)

-- what one more event of the origin brings
more_events : (S : Records) (origin : ℕ) (tag : Moment) (input : ℕ) (value : ℤ) (T : Records) → IsWithOne S (Event origin tag input value) T →
    (t : Moment) (payload : ℕ × ℤ) → HasEvent T origin t payload → HasEvent S origin t payload ⊎ ((t ≡ tag) × (payload ≡ (input, value)))
more_events S origin tag input value T more t payload h = elim ((more.each (Event origin t payload.0 payload.1)).0 h) [
  | inl old ↦ inl old
  | inr e ↦ (
      let tags : t ≡ tag = cc in
      let inputs : payload.0 ≡ input = cc in
      let values : payload.1 ≡ value = cc in
      inr (tags, λ i. (inputs i, values i))
      )
]

-- an event of a name that has none
pub heard_event : (S : Records) (origin : ℕ) (tag : Moment) (input : ℕ) (value : ℤ) (T : Records) (heard : Heard) → IsWithOne S (Event origin tag input value) T → (Contains heard.events tag → ⊥) → IsHeard S origin heard →
    IsHeard T origin (record heard { events = with_tag tag heard.events })
heard_event S origin tag input value T heard more new is =
    let one : Record = Event origin tag input value in
    let now : Heard = record heard { events = with_tag tag heard.events } in
    let keeps = keeps_one S one T more in
    let none = not_one S one T more in
    heard_from T origin now (ascending-with_tag tag heard.events is.ordered_events new) is.ordered_withdrawn
    (record {
      events = λ t. (
        λ h. elim (Contains-from_with_tag tag heard.events t h) [
          | inl old ↦ (let e = (is.events t).0 old in (e.0, keeps (Event origin t e.0.0 e.0.1) e.1))
          | inr e ↦ ((input, value), subst (λ (u : Moment). HasEvent T origin u (input, value)) e ((more.each one).1 (inr refl)))
        ],
        λ e. Contains-with_tag tag heard.events t (elim (more_events S origin tag input value T more t e.0 e.1) [
          | inl old ↦ inl ((is.events t).1 (e.0, old))
          | inr here ↦ inr (sym here.0)
        ]),
      );
      doubled = IfSome-weaker heard.doubled (λ t. HasTwoPayloads S origin t) (λ t. HasTwoPayloads T origin t)
          (λ t h. (h.0, h.1, keeps (Event origin t h.0.0 h.0.1) h.2, keeps (Event origin t h.1.0 h.1.1) h.3, h.4)) is.doubled;
      least_doubled = λ t h. is.least_doubled t (two t h);
    })
    (withdrawals_stay S T origin heard keeps (λ t. none (Withdraw origin t) (λ e. event_not_withdrawal origin origin tag t input value (sym e))) is)
    (announcements_stay S T origin heard keeps (λ t events withdrawn. none (Announce origin t events withdrawn) (λ e. event_not_announcement origin origin tag t input events withdrawn value (sym e))) is)
  where
    -- of the new name there is this one payload
    fresh : (t : Moment) (payload : ℕ × ℤ) → t ≡ tag → HasEvent S origin t payload → ⊥
    fresh t payload e h = new (subst (λ (u : Moment). Contains heard.events u) e ((is.events t).1 (payload, h)))

    two : (t : Moment) → HasTwoPayloads T origin t → HasTwoPayloads S origin t
    two t h = elim (more_events S origin tag input value T more t h.0 h.2) [
      | inl one ↦ elim (more_events S origin tag input value T more t h.1 h.3) [
        | inl other ↦ (h.0, h.1, one, other, h.4)
        | inr other ↦ absurd (fresh t h.0 other.0 one)
      ]
      | inr one ↦ elim (more_events S origin tag input value T more t h.1 h.3) [
        | inl other ↦ absurd (fresh t h.1 one.0 other)
        | inr other ↦ absurd (h.4 (one.1 ∙ sym other.1))
      ]
    ]

pub earlier_has : (doubled : Option Moment) (tag : Moment) (P : Moment → Type 0) → IfSome doubled P → P tag → P (earlier_of doubled tag)
earlier_has None tag P h here = here
earlier_has (Some t) tag P h here = elim (cases_Bool (is_before tag t)) [
  | inl b ↦ rw b here
  | inr b ↦ rw b h
]

-- no earlier than the earlier one is what is no earlier than one of the two
not_before_later : (t u v : Moment) → is_before t u ≡ false → is_before v u ≡ true → is_before t v ≡ false
not_before_later t u v h k = grind (arith, nat_tests)

pub earlier_least : (doubled : Option Moment) (tag t : Moment) → (t ≡ tag) ⊎ ((u : Moment) × (doubled ≡ Some u) × (is_before t u ≡ false)) → is_before t (earlier_of doubled tag) ≡ false
earlier_least None tag t (inl e) = rw e (not_before_self tag)
earlier_least None tag t (inr u) = absurd (let never : None ≡ Some u.0 = u.1 in cc)
earlier_least (Some v) tag t (inl e) = elim (cases_Bool (is_before tag v)) [
  | inl b ↦ rw (b, e) (not_before_self tag)
  | inr b ↦ rw (b, e) b
]
earlier_least (Some v) tag t (inr u) =
    let same : v ≡ u.0 = (let some : Some v ≡ Some u.0 = u.1 in cc) in
    let behind : is_before t v ≡ false = rw same u.2 in
    elim (cases_Bool (is_before tag v)) [
      | inl b ↦ rw b (not_before_later t v tag behind b)
      | inr b ↦ rw b behind
    ]

-- an event of a name that has one with another payload
pub heard_payload : (S : Records) (origin : ℕ) (tag : Moment) (input : ℕ) (value : ℤ) (T : Records) (heard : Heard) (payload : ℕ × ℤ) → IsWithOne S (Event origin tag input value) T →
    HasEvent S origin tag payload → payload ≢ (input, value) → IsHeard S origin heard → IsHeard T origin (record heard { doubled = Some (earlier_of heard.doubled tag) })
heard_payload S origin tag input value T heard payload more there other is =
    let one : Record = Event origin tag input value in
    let now : Heard = record heard { doubled = Some (earlier_of heard.doubled tag) } in
    let keeps = keeps_one S one T more in
    let none = not_one S one T more in
    heard_from T origin now is.ordered_events is.ordered_withdrawn
    (record {
      events = λ t. (
        λ h. (let e = (is.events t).0 h in (e.0, keeps (Event origin t e.0.0 e.0.1) e.1)),
        λ e. elim (more_events S origin tag input value T more t e.0 e.1) [
          | inl old ↦ (is.events t).1 (e.0, old)
          | inr here ↦ (is.events t).1 (payload, subst (λ (u : Moment). HasEvent S origin u payload) (sym here.0) there)
        ],
      );
      doubled = earlier_has heard.doubled tag (λ t. HasTwoPayloads T origin t)
          (IfSome-weaker heard.doubled (λ t. HasTwoPayloads S origin t) (λ t. HasTwoPayloads T origin t)
          (λ t h. (h.0, h.1, keeps (Event origin t h.0.0 h.0.1) h.2, keeps (Event origin t h.1.0 h.1.1) h.3, h.4)) is.doubled)
          (payload, (input, value), keeps (Event origin tag payload.0 payload.1) there, (more.each one).1 (inr refl), other);
      least_doubled = λ t h. (earlier_of heard.doubled tag, refl, earlier_least heard.doubled tag t (two t h));
    })
    (withdrawals_stay S T origin heard keeps (λ t. none (Withdraw origin t) (λ e. event_not_withdrawal origin origin tag t input value (sym e))) is)
    (announcements_stay S T origin heard keeps (λ t events withdrawn. none (Announce origin t events withdrawn) (λ e. event_not_announcement origin origin tag t input events withdrawn value (sym e))) is)
  where
    two : (t : Moment) → HasTwoPayloads T origin t → (t ≡ tag) ⊎ ((u : Moment) × (heard.doubled ≡ Some u) × (is_before t u ≡ false))
    two t h = elim (more_events S origin tag input value T more t h.0 h.2) [
      | inr one ↦ inl one.0
      | inl one ↦ elim (more_events S origin tag input value T more t h.1 h.3) [
        | inr other ↦ inl other.0
        | inl other ↦ inr (is.least_doubled t (h.0, h.1, one, other, h.4))
      ]
    ]

-- a new event of a name that has one
pub heard_new_payload : (S : Records) (origin : ℕ) (tag : Moment) (input : ℕ) (value : ℤ) (T : Records) (heard : Heard) → IsWithOne S (Event origin tag input value) T → (IsIn S (Event origin tag input value) → ⊥) →
    Contains heard.events tag → IsHeard S origin heard → IsHeard T origin (record heard { doubled = Some (earlier_of heard.doubled tag) })
heard_new_payload S origin tag input value T heard more new there is =
    let e = (is.events tag).0 there in
    heard_payload S origin tag input value T heard e.0 more e.1 (λ same. new (subst (λ (p : ℕ × ℤ). HasEvent S origin tag p) same e.1)) is

-- a withdrawal of a name that has none
pub heard_withdrawal : (S : Records) (origin : ℕ) (tag : Moment) (T : Records) (heard : Heard) → IsWithOne S (Withdraw origin tag) T → (Contains heard.withdrawn tag → ⊥) → IsHeard S origin heard →
    IsHeard T origin (record heard { withdrawn = with_tag tag heard.withdrawn })
heard_withdrawal S origin tag T heard more new is =
    let one : Record = Withdraw origin tag in
    let now : Heard = record heard { withdrawn = with_tag tag heard.withdrawn } in
    let keeps = keeps_one S one T more in
    let none = not_one S one T more in
    let events = events_stay S T origin heard keeps (λ t payload. none (Event origin t payload.0 payload.1) (event_not_withdrawal origin origin t tag payload.0 payload.1)) is in
    heard_from T origin now is.ordered_events (ascending-with_tag tag heard.withdrawn is.ordered_withdrawn new)
    (record { events = events.events; doubled = events.doubled; least_doubled = events.least_doubled })
    (λ t. (
      λ h. elim (Contains-from_with_tag tag heard.withdrawn t h) [
        | inl old ↦ keeps (Withdraw origin t) ((is.withdrawn t).0 old)
        | inr e ↦ subst (λ (u : Moment). HasWithdrawal T origin u) e ((more.each one).1 (inr refl))
      ],
      λ h. Contains-with_tag tag heard.withdrawn t (elim ((more.each (Withdraw origin t)).0 h) [
        | inl old ↦ inl ((is.withdrawn t).1 old)
        | inr e ↦ (let tags : tag ≡ t = cc in inr tags)
      ]),
    ))
    (announcements_stay S T origin heard keeps (λ t events withdrawn. none (Announce origin t events withdrawn) (λ e. withdrawal_not_announcement origin origin tag t events withdrawn (sym e))) is)

-- an announcement
pub heard_announcement : (S : Records) (origin : ℕ) (tag : Moment) (events withdrawn : ℕ) (T : Records) (heard : Heard) (announced : List Announced) → IsWithOne S (Announce origin tag events withdrawn) T →
    ((a : Announced) → Contains announced a ↔ Contains heard.announced a ⊎ (a ≡ record { tag = tag; events = events; withdrawn = withdrawn })) → IsHeard S origin heard →
    IsHeard T origin (record heard { announced = announced })
heard_announcement S origin tag events withdrawn T heard announced more adds is =
    let one : Record = Announce origin tag events withdrawn in
    let now : Heard = record heard { announced = announced } in
    let keeps = keeps_one S one T more in
    let none = not_one S one T more in
    let told = events_stay S T origin heard keeps (λ t payload. none (Event origin t payload.0 payload.1) (event_not_announcement origin origin t tag payload.0 events withdrawn payload.1)) is in
    heard_from T origin now is.ordered_events is.ordered_withdrawn
    (record { events = told.events; doubled = told.doubled; least_doubled = told.least_doubled })
    (withdrawals_stay S T origin heard keeps (λ t. none (Withdraw origin t) (withdrawal_not_announcement origin origin t tag events withdrawn)) is)
    (λ t e w. (
      λ h. elim ((adds (record { tag = t; events = e; withdrawn = w })).0 h) [
        | inl old ↦ keeps (Announce origin t e w) ((is.announced t e w).0 old)
        | inr same ↦ subst (λ (a : Announced). IsIn T (Announce origin a.tag a.events a.withdrawn)) (sym same) ((more.each one).1 (inr refl))
      ],
      λ h. (adds (record { tag = t; events = e; withdrawn = w })).1 (elim ((more.each (Announce origin t e w)).0 h) [
        | inl old ↦ inl ((is.announced t e w).1 old)
        | inr same ↦ (
            let tags : t ≡ tag = cc in
            let counts : e ≡ events = cc in
            let gone : w ≡ withdrawn = cc in
            inr (λ i. record { tag = tags i; events = counts i; withdrawn = gone i })
            )
      ]),
    ))
