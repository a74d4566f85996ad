-- What is kept of joint announcements, against the set of the records: how far they are reached, and whether one is broken.
use Rattle.std.proofs.Common.{◌≡◌, ◌⊎◌, inl, inr, ℕ, ◌+◌, ◌≤◌, Option, Some, List, IsTrue, subst, arith}
use Rattle.std.specs.Prelude.{◌↔◌, IfSome}
use Rattle.warp_tag.specs.Moment.{Moment, is_before}
use Rattle.warp_record.specs.declared.record.Record.{Record}
use Rattle.warp_record.specs.declared.record.Record.TheVariants.{Joint}
use Rattle.warp_table.specs.Horizons.{ReachesJointly}
use Rattle.warp_table.specs.Joint.{AtLeastNames, HasReachedJointly, IsBrokenJointly, IsReachedJointly, all_events_below, all_withdrawals_below}
use Rattle.warp_table.specs.Names.{HasTwoPayloads}
use Rattle.warp_table.specs.Records.{IsIn, Records, set_of}
use Rattle.warp_table.specs.declared.joint.JointAnnouncer.{JointAnnouncer}
use Rattle.warp_table.specs.declared.tally.EventOrWithdrawal.TheVariants.{Event, Withdrawal}
use Rattle.warp_table.specs.inner.Heard.{Announced, AreHeard, Heard, IsExceeded, IsExceededBy, IsHeardTo, IsReachedBy, count_before}
use Rattle.warp_table.specs.inner.Joint.{KeepsJoint, all_tags}
use Rattle.warp_table.proofs.Heard.{before_end}
use Rattle.warp_table.proofs.JointNames.{events_counted, withdrawals_counted}
use Rattle.warp_table.proofs.Tallies.{broken_heard, heard_of, heard_to}

module _ (records : List Record) (heards : List Heard) (joint : JointAnnouncer) (heard : AreHeard records heards) (keeps : KeepsJoint records heards joint) where
  abbrev S : Records
  S = set_of records

  -- what is heard of all origins together
  abbrev all : Heard
  all = heard_of (all_tags Event heards) (all_tags Withdrawal heards) keeps.doubled joint.announced

  reached_by : (a : Announced) → IsReachedBy all a ↔ IsReachedJointly S a.tag a.events a.withdrawn
  reached_by a =
      let events = events_counted records heards heard a.tag a.events in
      let withdrawn = withdrawals_counted records heards heard a.tag a.withdrawn in
      (λ r. (events.1 r.0, withdrawn.1 r.1), λ r. (events.0 r.0, withdrawn.0 r.1))

  -- up to the tag of the verdict they are reached
  pub reaches_jointly : ReachesJointly S joint.verdict.reached
  reaches_jointly =
      let to : IsHeardTo all joint.verdict.reached = heard_to (all_tags Event heards) (all_tags Withdrawal heards) keeps.doubled joint.announced joint.verdict keeps.kept in
      record {
        some = elim to.some [
          | inl a ↦ (
              let said : IsIn S (Joint a.0.tag a.0.events a.0.withdrawn) = (keeps.announced a.0.tag a.0.events a.0.withdrawn).0 a.1 in
              let there : HasReachedJointly S a.0.tag = (a.0.events, a.0.withdrawn, said, (reached_by a.0).0 a.2) in
              inl (subst (λ (t : Moment). HasReachedJointly S t) a.3 there)
              )
          | inr none ↦ inr none
        ];
        greatest = λ other r. (
            let a : Announced = record { tag = other; events = r.0; withdrawn = r.1 } in
            to.greatest a ((keeps.announced other r.0 r.1).1 r.2) ((reached_by a).1 r.3)
            );
      }

  two_of : (d : Option Moment) (t : Moment) → d ≡ Some t → IfSome d (λ u. (origin : ℕ) × HasTwoPayloads S origin u) → (origin : ℕ) × HasTwoPayloads S origin t
  two_of d t is has = subst (λ (o : Option Moment). IfSome o (λ u. (origin : ℕ) × HasTwoPayloads S origin u)) is has

  exceeded_by : (a : Announced) → IsExceededBy all a ↔ AtLeastNames (a.events + 1) (all_events_below S a.tag)
      ⊎ (AtLeastNames (a.withdrawn + 1) (all_withdrawals_below S a.tag)
      ⊎ ((origin : ℕ) × (tag : Moment) × IsTrue (is_before tag a.tag) × HasTwoPayloads S origin tag))
  exceeded_by a =
      let events = events_counted records heards heard a.tag (a.events + 1) in
      let withdrawn = withdrawals_counted records heards heard a.tag (a.withdrawn + 1) in (
        λ h. elim h [
          | inl more ↦ inl (events.1 (omega (arith, more)))
          | inr rest ↦ elim rest [
            | inl more ↦ inr (inl (withdrawn.1 (omega (arith, more))))
            | inr d ↦ (let two = two_of keeps.doubled d.0 d.1 keeps.least.some in inr (inr (two.0, d.0, d.2, two.1)))
          ]
        ],
        λ h. elim h [
          | inl more ↦ inl (let many : a.events + 1 ≤ count_before a.tag (all_tags Event heards) = events.0 more in omega arith)
          | inr rest ↦ elim rest [
            | inl more ↦ inr (inl (let many : a.withdrawn + 1 ≤ count_before a.tag (all_tags Withdrawal heards) = withdrawn.0 more in omega arith))
            | inr d ↦ (
                let least = keeps.least.least d.0 d.1 d.3 in
                inr (inr (least.0, least.1, before_end d.1 least.0 a.tag least.2 d.2))
                )
          ]
        ],
      )

  -- one of them is broken where the verdict says so
  pub breaks_jointly : IsTrue joint.verdict.is_broken ↔ IsBrokenJointly S
  breaks_jointly =
      let is : IsTrue joint.verdict.is_broken ↔ IsExceeded all = broken_heard (all_tags Event heards) (all_tags Withdrawal heards) keeps.doubled joint.announced joint.verdict keeps.kept in (
        λ up. (
            let h = is.0 up in
            let a = h.0 in
            (a.tag, a.events, a.withdrawn, (keeps.announced a.tag a.events a.withdrawn).0 h.1, (exceeded_by a).0 h.2)
            ),
        λ h. (
            let a : Announced = record { tag = h.0; events = h.1; withdrawn = h.2 } in
            is.1 (a, (keeps.announced h.0 h.1 h.2).1 h.3, (exceeded_by a).1 h.4)
            ),
      )
